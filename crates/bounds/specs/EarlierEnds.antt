-- The two ends of an until between two times at a state, by cases as the code decides them. That they keep the rules for ends is in
-- proofs/EarlierEnds. Assumes nothing.
use Rattle.std.specs.Prelude.{◌≡◌, Bool}
use Rattle.std.proofs.Math.Bool.{true}
use Prim.Native.Nat.{ℕ, ◌+◌, ◌*◌, ◌≤◌, ◌<◌}
use Rattle.csl.specs.Limits.{rate_hundredths}
use Rattle.csl.specs.Chain.{Chain, top_rate, depth}
use Rattle.csl.specs.Verdicts.{Verdict}
use Rattle.bounds.specs.StepValues.{earlier_lower_of, earlier_upper_of, earlier_gap}

-- the ends at state s of a phase over t hundredths of an hour, from the ends of the phase after it and the rounded values of its two readings; v are
-- the first operand's verdicts
abbrev pub earlier_lower : Chain → ℕ → (v : ℕ → Verdict) (lo : ℕ → ℕ) (val : ℕ → ℕ → ℕ) → ℕ → ℕ
earlier_lower c t v lo val s = earlier_lower_of (top_rate c * t) rate_hundredths (depth c t) (v s) (lo s) (λ k. val k s)

abbrev pub earlier_upper : Chain → ℕ → (v : ℕ → Verdict) (lo up : ℕ → ℕ) (val high : ℕ → ℕ → ℕ) → ℕ → ℕ
earlier_upper c t v lo up val high s =
    earlier_upper_of (top_rate c * t) rate_hundredths (depth c t) (earlier_gap c.states v lo up) (v s) (up s) (λ k. val k s) (λ k. high k s)

-- where starts are near nothing is undecided, and the gap is between them
pub record Near (decided : Bool) (lower upper : ℕ → ℕ) (n gap : ℕ) : Type 0 where
  pub all : decided ≡ true
  pub apart : (s : ℕ) → s < n → upper s ≤ lower s + gap
