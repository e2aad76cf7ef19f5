-- The ends of the states before s stand. Assumes nothing.
use Rattle.numbers.specs.Filled.{Filled}
use Rattle.phase.specs.Ends.{lower_at}
use Rattle.phase.proofs.ends.lower_ends.Given as goal

abbrev pub invariant-loop-s : goal.invariant-loop-s
invariant-loop-s l = Filled (lower_at l.fn.words l.n) 0 l.s l.fn.words l.words
