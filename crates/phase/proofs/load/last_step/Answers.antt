-- `last_step` meets its contract. Assumes nothing.
use borrow.Author.Rules.{rules}
use Rattle.phase.proofs.LastLaw.{last_laws}
use Rattle.phase.proofs.load.last_step.Goals as goal

pub loop-k-init : goal.loop-k-init
loop-k-init c = search (rules, last_laws)

pub returns-then-most-rest : goal.returns-then-most-rest
returns-then-most-rest c = search (rules, last_laws)

pub loop-k-preserved : goal.loop-k-preserved
loop-k-preserved c = search (rules, last_laws)

pub returns : goal.returns
returns c = search (rules, last_laws)
