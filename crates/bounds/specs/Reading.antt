-- The ends of an until with load above 0, from sums: the lower end of the reading with undecided as no, the upper end of that with
-- undecided as yes. Assumes nothing.
use Rattle.std.specs.Prelude.{ℕ, ◌*◌, ◌/◌}
use Rattle.csl.specs.Limits.{rate_hundredths}
use Rattle.csl.specs.Chain.{Chain, top_rate, depth}
use Rattle.bounds.specs.Ends.{lower_end}
use Rattle.bounds.specs.Upper.{upper_end}

-- the two ends of a phase at state s, for t hundredths of an hour, from rounded values
abbrev pub summed_lower : Chain → ℕ → (ℕ → ℕ → ℕ) → ℕ → ℕ
summed_lower c t val s = lower_end (top_rate c * t) rate_hundredths (top_rate c * t / rate_hundredths) (depth c t) (λ k. val k s)

abbrev pub summed_upper : Chain → ℕ → (ℕ → ℕ → ℕ) → ℕ → ℕ
summed_upper c t val s = upper_end (top_rate c * t) rate_hundredths (top_rate c * t / rate_hundredths) (depth c t) 0 (λ k. val k s)
