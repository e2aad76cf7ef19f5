-- The ends of the states before s are those to start from. Assumes nothing.
use Rattle.until.proofs.RestrictLaw.{Inv}
use Rattle.until.proofs.ends.restrict.Given as goal

abbrev pub invariant-loop-s : goal.invariant-loop-s
invariant-loop-s l = Inv l.fn.words l.words l.first l.n l.s
