-- Until: its phase, its quotients, its point ends, and what it means. Assumes nothing.
use Rattle.std.specs.Prelude.{◌≡◌, ℕ, ◌*◌, Bool, not, ◌||◌}
use Rattle.csl.specs.Limits.{billion, width_factor}
use Rattle.csl.specs.Fraction.{Fraction, Same, billionths}
use Rattle.csl.specs.Chain.{Chain, top_rate, load, depth}
use Rattle.csl.specs.Phase.{Phase, bit, step_value, quotient}
use Rattle.csl.specs.Limit.{limit}
use Rattle.csl.specs.Verdicts.{Verdict, No, Yes, least, most}
use Rattle.csl.specs.Graph.{UntilPossible, UntilCertain, AllDecided, Ruled}
use Rattle.csl.specs.Meaning.{Meaning}

-- "At step 0 it is 1 where the second operand holds, else 0. At each later step it is 1 where the second operand holds and 0 where neither
-- holds."
abbrev pub until_phase : (ℕ → Bool) → (ℕ → Bool) → Phase
until_phase first second =
    record { whole = 1; start = λ s. bit (second s); one = second; nil = λ s. not (first s || second s) }

-- the quotients of state s for until over t hundredths of an hour, where `first` and `second` say where the operands hold
abbrev pub until_quotient : Chain → ℕ → (ℕ → Bool) → (ℕ → Bool) → ℕ → ℕ → Fraction
until_quotient c t first second s = quotient (load c t) (step_value c (until_phase first second) s)

-- those for undecided operand states "read as no", and "read as yes"
abbrev pub low_quotient : Chain → ℕ → (ℕ → Verdict) → (ℕ → Verdict) → ℕ → ℕ → Fraction
low_quotient c t v w = until_quotient c t (least v) (least w)

abbrev pub high_quotient : Chain → ℕ → (ℕ → Verdict) → (ℕ → Verdict) → ℕ → ℕ → Fraction
high_quotient c t v w = until_quotient c t (most v) (most w)

-- 4 × D
abbrev pub until_slack : Chain → ℕ → ℕ
until_slack c t = width_factor * depth c t

-- the ends at state s that are given without a sum, where the operands have the verdicts v and w
pub record UntilPoints (c : Chain) (t : ℕ) (v w : ℕ → Verdict) (s lower upper : ℕ) : Type 0 where
  -- "A state where the second operand is yes has both ends 1,000,000,000; one where both operands are no has both ends 0."
  pub certain : w s ≡ Yes → (lower ≡ billion) × (upper ≡ billion)
  pub impossible : v s ≡ No → w s ≡ No → (lower ≡ 0) × (upper ≡ 0)
  -- "With load 0 each end is the exact value of its reading."
  pub lower_exact : top_rate c * t ≡ 0 → (n : ℕ) → Same (billionths lower) (low_quotient c t v w s n)
  pub upper_exact : top_rate c * t ≡ 0 → (n : ℕ) → Same (billionths upper) (high_quotient c t v w s n)

-- what until over t hundredths of an hour means, with the operands a and b
abbrev pub until_meaning : {A : Type 0} → Chain → ℕ → A → A → Meaning A
until_meaning c t a b =
    record {
      depth = depth c t;
      value = λ reading s. limit (depth c t) (until_quotient c t (reading a) (reading b) s);
      slack = until_slack c t;
      Points = λ verdicts s lower upper. UntilPoints c t (verdicts a) (verdicts b) s lower upper;
      Follows = λ verdicts r p s v interval.
          Ruled (AllDecided c (verdicts a) × AllDecided c (verdicts b)) r p
          (UntilPossible c t (least (verdicts a)) (least (verdicts b)) s) (UntilCertain (least (verdicts b)) s) v interval;
    }
