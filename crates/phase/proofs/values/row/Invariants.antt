-- The words before j are added up. Assumes nothing.
use mathlib.Core.Path.{◌≡◌}
use Prim.Native.Nat.{◌+◌}
use Rattle.csl.specs.Chain.{sum_to}
use Rattle.rate_matrix.specs.Words.{pull}
use Rattle.vectors.specs.Places.{value_at}
use Rattle.phase.proofs.values.row.Given as goal

abbrev pub invariant-loop-j : goal.invariant-loop-j
invariant-loop-j l =
    l.sum + sum_to (pull l.moves (value_at l.words l.n)) l.begin ≡ l.own + sum_to (pull l.moves (value_at l.words l.n)) l.j
