-- `spread` meets its contract. Assumes nothing.
use borrow.Author.Rules.{rules}
use Rattle.reachability.proofs.SpreadLaw.{spread_laws}
use Rattle.reachability.proofs.spread.spread.Goals as goal

pub returns-then-tail-most : goal.returns-then-tail-most
returns-then-tail-most c = search (rules, spread_laws)

pub overflow_add-t : goal.overflow_add-t
overflow_add-t c = search (rules, spread_laws)

pub offset_bounds-words-n : goal.offset_bounds-words-n
offset_bounds-words-n c = search (rules, spread_laws)

pub bounds-words-n : goal.bounds-words-n
bounds-words-n c = search (rules, spread_laws)

pub row_begin-begin-requires : goal.row_begin-begin-requires
row_begin-begin-requires c = search (rules, spread_laws)

pub overflow_add-n : goal.overflow_add-n
overflow_add-n c = search (rules, spread_laws)

pub offset_bounds-words-n-in-loop-head : goal.offset_bounds-words-n-in-loop-head
offset_bounds-words-n-in-loop-head c = search (rules, spread_laws)

pub bounds-words-n-in-loop-head : goal.bounds-words-n-in-loop-head
bounds-words-n-in-loop-head c = search (rules, spread_laws)

pub enter-tail-requires : goal.enter-tail-requires
enter-tail-requires c = search (rules, spread_laws)

pub overflow_add-head : goal.overflow_add-head
overflow_add-head c = search (rules, spread_laws)

pub loop-head-smaller : goal.loop-head-smaller
loop-head-smaller c = search (rules, spread_laws)

pub loop-head-preserved : goal.loop-head-preserved
loop-head-preserved c = search (rules, spread_laws)

pub returns : goal.returns
returns c = search (rules, spread_laws)
