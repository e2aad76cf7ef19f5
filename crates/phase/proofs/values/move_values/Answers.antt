-- `move_values` meets its contract. Assumes nothing.
use borrow.Author.Rules.{rules}
use Rattle.phase.proofs.ValuesLaw.{values_laws}
use Rattle.phase.proofs.values.move_values.Goals as goal

pub loop-s-init : goal.loop-s-init
loop-s-init c = search (rules, values_laws)

pub loop-s-preserved : goal.loop-s-preserved
loop-s-preserved c = search (rules, values_laws)
