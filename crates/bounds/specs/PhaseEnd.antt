-- The two ends of a phase of a chain at one state, from one run of lower values that are known up to an error at step 0, for a load a / b
-- with its greatest weight at step a / b, at the depth 2 × (a / b rounded up) + 40. That the quotients from there on lie between them, and how far they
-- are apart, is in proofs/PhaseEnd. Assumes nothing.
use Rattle.std.specs.Prelude.{ℕ, ◌+◌, ◌*◌, ◌/◌, ◌≤◌}
use Rattle.csl.specs.Limits.{spare_steps}
use Rattle.csl.specs.Fraction.{frac, Below, billionths, round_up}
use Rattle.csl.specs.Chain.{Chain}
use Rattle.csl.specs.Phase.{Phase, step_value, quotient}
use Rattle.bounds.specs.Unit.{unit}
use Rattle.bounds.specs.Ends.{lower_end}
use Rattle.bounds.specs.Upper.{upper_end}

-- from twice the load rounded up each weight is at most half the one before
abbrev pub reach : ℕ → ℕ → ℕ
reach a b = 2 * round_up (frac a b)

abbrev pub phase_depth : ℕ → ℕ → ℕ
phase_depth a b = reach a b + spare_steps

abbrev pub phase_lower : ℕ → ℕ → (ℕ → ℕ) → ℕ
phase_lower a b v = lower_end a b (a / b) (phase_depth a b) v

abbrev pub phase_upper : ℕ → ℕ → ℕ → (ℕ → ℕ) → ℕ
phase_upper a b e v = upper_end a b (a / b) (phase_depth a b) e v

-- what the two ends keep at state s, where the start is known up to e units
pub record PhaseEnds (c : Chain) (ph : Phase) (a b e s lower upper : ℕ) : Type 0 where
  pub below : (n : ℕ) → phase_depth a b ≤ n → Below (billionths lower) (quotient (frac a b) (step_value c ph s) n)
  pub above : (n : ℕ) → phase_depth a b ≤ n → Below (quotient (frac a b) (step_value c ph s) n) (billionths upper)
  pub near : upper * unit ≤ (lower + 2 * phase_depth a b) * unit + e
