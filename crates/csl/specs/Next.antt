-- The next move: "To ask which fault comes first, a path formula may also be `X` and a state formula." Its exit rate, its fraction, its ends, and
-- what it means. Assumes nothing.
use Rattle.std.specs.Prelude.{◌≡◌, ℕ, Bool, cond, eqb}
use Rattle.csl.specs.Limits.{next_width, next_depth}
use Rattle.csl.specs.Fraction.{Fraction, frac, round_down, round_up, in_billionths}
use Rattle.csl.specs.Chain.{Chain, sum_to}
use Rattle.csl.specs.Limit.{exact}
use Rattle.csl.specs.Verdicts.{Verdict, least, most}
use Rattle.csl.specs.Graph.{Enters, EntersOnly, AllDecided, Ruled}
use Rattle.csl.specs.Meaning.{Meaning}

-- moves to the own state "count in the exit rate for `X`"
unfoldable pub next_exit_rate : Chain → ℕ → ℕ
next_exit_rate c s = sum_to (c.rate s) c.states

-- "the sum of rates into states where the operand holds"
unfoldable pub entering_rate : Chain → (ℕ → Bool) → ℕ → ℕ
entering_rate c x s = sum_to (λ t. cond (x t) (c.rate s t) 0) c.states

-- ".. divided by the exit rate, and 0 where that is 0"
abbrev pub divided_by : ℕ → ℕ → Fraction
divided_by entering exit = cond (eqb exit 0) (frac 0 1) (frac entering exit)

-- "Its probability", where x says where the operand holds
unfoldable pub next_fraction : Chain → (ℕ → Bool) → ℕ → Fraction
next_fraction c x s = divided_by (entering_rate c x s) (next_exit_rate c s)

-- "Lower is that fraction rounded down to billionths, upper rounded up"; "undecided operands are read as for until"
abbrev pub next_lower : Chain → (ℕ → Verdict) → ℕ → ℕ
next_lower c v s = round_down (in_billionths (next_fraction c (least v) s))

abbrev pub next_upper : Chain → (ℕ → Verdict) → ℕ → ℕ
next_upper c v s = round_up (in_billionths (next_fraction c (most v) s))

-- so both ends at state s are determined, where the operand has the verdicts v
pub record NextPoints (c : Chain) (v : ℕ → Verdict) (s lower upper : ℕ) : Type 0 where
  pub lower_is : lower ≡ next_lower c v s
  pub upper_is : upper ≡ next_upper c v s

-- what the next move means, with the operand a: "the width is at most 1, which here takes the place of 4 × D"; "depth is 0"
abbrev pub next_meaning : {A : Type 0} → Chain → A → Meaning A
next_meaning c a =
    record {
      depth = next_depth;
      value = λ reading s. exact (next_fraction c (reading a) s);
      slack = next_width;
      Points = λ verdicts s lower upper. NextPoints c (verdicts a) s lower upper;
      Follows = λ verdicts r p s v interval.
          Ruled (AllDecided c (verdicts a)) r p (Enters c (least (verdicts a)) s) (EntersOnly c (least (verdicts a)) s) v interval;
    }
