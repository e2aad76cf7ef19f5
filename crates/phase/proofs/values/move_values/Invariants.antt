-- The values of the states before s are moved, and the row of s is next. Assumes nothing.
use Rattle.phase.proofs.ValuesLaw.{MovedTo}
use Rattle.phase.proofs.values.move_values.Given as goal

abbrev pub invariant-loop-s : goal.invariant-loop-s
invariant-loop-s l = MovedTo l.moves l.fn.words l.words l.n l.q l.begin l.s
