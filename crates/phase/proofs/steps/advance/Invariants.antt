-- The values and sums of the states before i are new. Assumes nothing.
use Prim.Native.Nat.{◌+◌, ◌*◌}
use Rattle.numbers.specs.Filled.{Twin}
use Rattle.bounds.specs.Unit.{part}
use Rattle.vectors.specs.Places.{next_at, sum_at}
use Rattle.phase.proofs.steps.advance.Given as goal

abbrev pub invariant-loop-i : goal.invariant-loop-i
invariant-loop-i l =
    Twin (next_at l.fn.words l.n) (λ j. sum_at l.fn.words l.n j + part l.w (next_at l.fn.words l.n j)) (2 * l.n) (4 * l.n) l.i l.fn.words l.words
