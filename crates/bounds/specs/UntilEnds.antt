-- The two ends of an until at a state, by cases as the code decides them. That they keep the rules for ends is in proofs/UntilEnds. Assumes nothing.
use Rattle.std.specs.Prelude.{ℕ, ◌*◌}
use Rattle.csl.specs.Limits.{rate_hundredths}
use Rattle.csl.specs.Chain.{Chain, top_rate, depth}
use Rattle.csl.specs.Verdicts.{Verdict, No, Yes, Undecided}
use Rattle.bounds.specs.StepValues.{until_lower_of, until_upper_of}

-- the ends at state s of an until over t hundredths of an hour, from the rounded values of its two phases; v and w are the operands' verdicts
abbrev pub until_lower : Chain → ℕ → (v w : ℕ → Verdict) (val : ℕ → ℕ → ℕ) → ℕ → ℕ
until_lower c t v w val s = until_lower_of (top_rate c * t) rate_hundredths (depth c t) (v s) (w s) (λ k. val k s)

abbrev pub until_upper : Chain → ℕ → (v w : ℕ → Verdict) (high : ℕ → ℕ → ℕ) → ℕ → ℕ
until_upper c t v w high s = until_upper_of (top_rate c * t) rate_hundredths (depth c t) (v s) (w s) (λ k. high k s)

-- no state has two verdicts
abbrev pub place : Verdict → ℕ
place No = 0
place Yes = 1
place Undecided = 2
