-- `state` meets its contract. Assumes nothing.
use borrow.Author.Rules.{rules}
use Rattle.phase.proofs.StateLaw.{state_laws}
use Rattle.phase.proofs.values.state.Goals as goal

pub returns-then-q-stays : goal.returns-then-q-stays
returns-then-q-stays c = search (rules, state_laws)

pub overflow_mul-stays-2 : goal.overflow_mul-stays-2
overflow_mul-stays-2 c = search (rules, state_laws)

pub row-requires : goal.row-requires
row-requires c = search (rules, state_laws)

pub returns : goal.returns
returns c = search (rules, state_laws)
