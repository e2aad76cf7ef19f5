-- Until between two times: "Guns may fire only after the string has settled, so a path formula may be `V` with two times and two state formulas:
-- the second at some time between them, the first until then." Its two phases where the first time is above 0, its quotients at pairs of depths,
-- its point ends, and what it means. Assumes nothing.
use Rattle.std.specs.Prelude.{◌≡◌, ℕ, ◌+◌, ◌*◌, ◌-◌, Bool, false, cond, not}
use Rattle.csl.specs.Limits.{width_factor}
use Rattle.csl.specs.Fraction.{Fraction, Same, billionths}
use Rattle.csl.specs.Chain.{Chain, top_rate, load, depth}
use Rattle.csl.specs.Phase.{Phase, step_value, quotient}
use Rattle.csl.specs.Limit.{limits}
use Rattle.csl.specs.Verdicts.{Verdict, No, least, most}
use Rattle.csl.specs.Until.{until_quotient}
use Rattle.csl.specs.Meaning.{Meaning}

-- "the later of two phases is until over the difference": its quotients, where t and u are the two times and `first` and `second` say where the
-- operands hold
abbrev pub later_quotient : Chain → (t u : ℕ) → (first second : ℕ → Bool) → (s n : ℕ) → Fraction
later_quotient c t u first second s n = until_quotient c (u - t) first second s n

-- "The earlier phase starts from the later one's quotient where the first operand holds and 0 elsewhere, holds 0 where that operand fails, and
-- steps everywhere else, states of the second operand included." n is the later phase's depth; its quotients there have one divisor, which is
-- that of state 0.
abbrev pub earlier_phase : Chain → (t u : ℕ) → (first second : ℕ → Bool) → (n : ℕ) → Phase
earlier_phase c t u first second n =
    record {
      whole = (later_quotient c t u first second 0 n).bottom;
      start = λ s. cond (first s) (later_quotient c t u first second s n).top 0;
      one = λ s. false;
      nil = λ s. not (first s);
    }

-- the quotient of state s at the depth m of the earlier phase and n of the later
abbrev pub between_quotient : Chain → (t u : ℕ) → (first second : ℕ → Bool) → (s m n : ℕ) → Fraction
between_quotient c t u first second s m n = quotient (load c t) (step_value c (earlier_phase c t u first second n) s) m

-- "the printed depth is their sum, which is D in both limits of 4 × D"
abbrev pub between_depth : Chain → (t u : ℕ) → ℕ
between_depth c t u = depth c t + depth c (u - t)

abbrev pub between_slack : Chain → (t u : ℕ) → ℕ
between_slack c t u = width_factor * between_depth c t u

-- "Of the point ends two hold here: both 0 where the first operand is no, and exact ends with q = 0", where the operands have the verdicts v and w
pub record BetweenPoints (c : Chain) (t u : ℕ) (v w : ℕ → Verdict) (s lower upper : ℕ) : Type 0 where
  pub impossible : v s ≡ No → (lower ≡ 0) × (upper ≡ 0)
  pub lower_exact : top_rate c ≡ 0 → (m n : ℕ) → Same (billionths lower) (between_quotient c t u (least v) (least w) s m n)
  pub upper_exact : top_rate c ≡ 0 → (m n : ℕ) → Same (billionths upper) (between_quotient c t u (most v) (most w) s m n)

-- what until between the times t and u means, with t above 0 and the operands a and b: "Ask 5's graph rule leaves two phases to their ends"
abbrev pub between_meaning : {A : Type 0} → Chain → (t u : ℕ) → A → A → Meaning A
between_meaning c t u a b =
    record {
      depth = between_depth c t u;
      value = λ reading s. limits (depth c t) (depth c (u - t)) (between_quotient c t u (reading a) (reading b) s);
      slack = between_slack c t u;
      Points = λ verdicts s lower upper. BetweenPoints c t u (verdicts a) (verdicts b) s lower upper;
      Follows = λ verdicts r p s v interval. interval;
    }
