-- How far apart the two ends of the states before s are. Assumes nothing.
use Rattle.until.proofs.GapLaw.{GapTo}
use Rattle.until.proofs.reading.gap.Given as goal

abbrev pub invariant-loop-s : goal.invariant-loop-s
invariant-loop-s l = GapTo l.words l.operands.first.now l.operands.second.now l.n l.gap l.s
