-- `state` meets its contract. Assumes nothing.
use Rattle.next_move.proofs.StateLaw.{state_laws}
use borrow.Author.Rules.{rules}
use Rattle.next_move.proofs.ends.state.Goals as goal

pub row-others-requires : goal.row-others-requires
row-others-requires c = search (rules, state_laws)

pub overflow_add-others : goal.overflow_add-others
overflow_add-others c = search (rules, state_laws)

pub overflow_add-others-2 : goal.overflow_add-others-2
overflow_add-others-2 c = search (rules, state_laws)

pub overflow_add-words : goal.overflow_add-words
overflow_add-words c = search (rules, state_laws)

pub interval_of-requires : goal.interval_of-requires
interval_of-requires c = search (rules, state_laws)

pub returns : goal.returns
returns c = search (rules, state_laws)
