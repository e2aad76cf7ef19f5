-- `advance` meets its contract. Assumes nothing.
use Rattle.phase.proofs.AdvanceLaw.{turn}
use Rattle.phase.proofs.steps.advance.Goals as goal

pub loop-i-preserved : goal.loop-i-preserved
loop-i-preserved c = turn c.requires c.loop-i.invariant c.loop-i-test.true c.added.result c.added.ensures
