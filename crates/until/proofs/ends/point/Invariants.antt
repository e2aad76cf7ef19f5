-- `point` meets its contract. Assumes nothing.
use Rattle.until.proofs.PointLaw.{Inv}
use Rattle.until.proofs.ends.point.Given as goal

abbrev pub invariant-loop-s : goal.invariant-loop-s
invariant-loop-s l = Inv l.initial.words l.words l.operands.first.now l.operands.second.now l.n l.s
