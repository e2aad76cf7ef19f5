-- The ends of the states before s stand. Assumes nothing.
use Rattle.numbers.specs.Filled.{Filled}
use Rattle.phase.specs.Ends.{upper_at}
use Rattle.phase.proofs.ends.upper_ends.Given as goal

abbrev pub invariant-loop-s : goal.invariant-loop-s
invariant-loop-s l = Filled (upper_at l.fn.words l.n l.last l.error) l.n l.s l.fn.words l.words
