-- `run` meets its contract. Assumes nothing.
use borrow.Author.Rules.{rules}
use Rattle.until.proofs.RunLaw.{run_laws}
use Rattle.until.proofs.reading.run.Goals as goal

pub loop-init : goal.loop-init
loop-init c = search (rules, run_laws)

pub step-requires : goal.step-requires
step-requires c = search (rules, run_laws)

pub loop-preserved : goal.loop-preserved
loop-preserved c = search (rules, run_laws)

pub returns : goal.returns
returns c = search (rules, run_laws)
