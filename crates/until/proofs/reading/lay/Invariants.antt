-- The words of the states before s are laid. Assumes nothing.
use Rattle.until.proofs.LayLaw.{LaidTo}
use Rattle.until.proofs.reading.lay.Given as goal

abbrev pub invariant-loop-s : goal.invariant-loop-s
invariant-loop-s l = LaidTo l.operands.first.now l.operands.second.now l.n l.q l.as_yes l.s l.fn.words l.words
