-- `restrict` meets its contract. Assumes nothing.
use Rattle.until.proofs.RestrictLaw.{turn}
use Rattle.until.proofs.ends.restrict.Goals as goal

pub loop-s-preserved : goal.loop-s-preserved
loop-s-preserved c =
    turn c.args.first.now c.loop-s.invariant c.loop-s-test.true _ _ _ _ c.holds.ensures c.kept.ensures c.holds-in-loop-s.ensures
    c.kept-in-loop-s.ensures
