-- The upper end of an earlier phase from a run that starts near the later phase's upper ends. That the sums over the earlier phase keep every rule,
-- from any ends of the later one that keep until's, is in proofs/TwoPhases. Assumes nothing.
use Prim.Native.Nat.{ℕ, ◌*◌, ◌/◌}
use Rattle.csl.specs.Limits.{rate_hundredths}
use Rattle.csl.specs.Chain.{Chain, top_rate, depth}
use Rattle.bounds.specs.Unit.{unit}
use Rattle.bounds.specs.Upper.{upper_end}

-- the upper end of a phase at state s, for t hundredths of an hour, from rounded values that start at most so many billionths too low
abbrev pub near_end : Chain → (t gap : ℕ) → (ℕ → ℕ → ℕ) → ℕ → ℕ
near_end c t gap val s = upper_end (top_rate c * t) rate_hundredths (top_rate c * t / rate_hundredths) (depth c t) (unit * gap) (λ k. val k s)
