-- The weights after step k are dropped. Assumes nothing.
use Rattle.phase.proofs.LastLaw.{Dropped}
use Rattle.phase.proofs.load.last_step.Given as goal

abbrev pub invariant-loop-k : goal.invariant-loop-k
invariant-loop-k l = Dropped l.words l.n l.depth l.most l.rest l.k
