-- `falling` meets its contract. Assumes nothing.
use borrow.Author.Rules.{rules}
use Rattle.weights.proofs.FallingLaw.{falling_laws}
use Rattle.weights.proofs.falling.Goals as goal

pub loop-k-init : goal.loop-k-init
loop-k-init c = search (rules, falling_laws)

pub before-requires : goal.before-requires
before-requires c = search (rules, falling_laws)

pub loop-k-preserved : goal.loop-k-preserved
loop-k-preserved c = search (rules, falling_laws)
