-- `seed` meets its contract. Assumes nothing.
use borrow.Author.Rules.{rules}
use Rattle.reachability.proofs.SeedLaw.{start, turn}
use Rattle.reachability.proofs.begin.seed.Goals as goal

pub loop-s-init : goal.loop-s-init
loop-s-init c = start c.requires

pub loop-s-preserved : goal.loop-s-preserved
loop-s-preserved c =
    turn c.loop-s.invariant (search rules) c.reach-tail.ensures.value c.reach-tail.ensures.queue c.reach-tail.ensures.bytes
