-- The interval of each state, from the two ends that its sums give. Assumes nothing.
use mathlib.Core.Path.{◌≡◌, refl}
use mathlib.Core.Bool.{true, false}
use mathlib.Core.List.{List}
use Prim.Native.Nat.{ℕ, ◌+◌, ◌<◌}
use native.Mathlib.Omega.{arith}
use lib.ListN.{set}
use mir.Val.{Fits}
use mir.Syntax.{w32}
use Rattle.csl.specs.Verdicts.{Verdict}
use Rattle.verdicts.specs.Paper.{interval}
use Rattle.verdicts.specs.Byte.{verdict_at}
use Rattle.verdicts.specs.declared.interval.Interval.{Interval}
use Rattle.bounds.specs.StepValues.{pointed}
use Rattle.vectors.specs.Places.{at}
use Rattle.until.specs.Reading.{verdicts}
use Rattle.until.specs.Asked.{EndsAsked}
use Rattle.vectors.specs.Storing as ends

abbrev pub Inv : (l₀ l first second : List ℕ) (n s : ℕ) → Type 0
Inv l₀ l first second n s =
    ends.Inv (λ g. pointed (verdicts first g) (verdicts second g) (at l₀ g)) (λ g. pointed (verdicts first g) (verdicts second g) (at l₀ (n + g))) l₀ l n s

module _ {l₀ l first second : List ℕ} {n s : ℕ} (p : EndsAsked l₀ first second n) (v : Inv l₀ l first second n s) (h : s < n) where
  lower_is : at l s ≡ at l₀ s
  lower_is = ends.lower_was v h

  upper_is : at l (n + s) ≡ at l₀ (n + s)
  upper_is = ends.upper_was v h

  pub may_cast : Fits w32 (at l s)
  may_cast = rw lower_is (omega (arith, p.small false s h))

  pub may_cast_upper : Fits w32 (at l (n + s))
  may_cast_upper = rw upper_is (omega (arith, p.small true s h))

  pub turn : (i : Interval) (a b : Verdict) → a ≡ verdict_at (at first s) → b ≡ verdict_at (at second s)
      → i ≡ interval (pointed a b (at l s)) (pointed a b (at l (n + s)))
      → Inv l₀ (set (set l s i.lower) (n + s) i.upper) first second n (s + 1)
  turn i a b e f k = ends.turn v h i.lower i.upper (rw (k, e, f, lower_is) refl) (rw (k, e, f, upper_is) refl)

pub ruleset point_laws = (may_cast, may_cast_upper)
