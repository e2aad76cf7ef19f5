-- "A fraction, here and below, is a pair of whole numbers, the second above 0; pairs are compared by their cross products, and what is
-- taken away on one side may be added on the other." Assumes nothing.
use Rattle.std.specs.Prelude.{◌≡◌, ℕ, zero, suc, ◌+◌, ◌*◌, ◌-◌, ◌/◌, ◌≤◌, ◌<◌}
use Rattle.csl.specs.Limits.{billion}

pub record Fraction : Type 0 where
  pub top : ℕ
  pub bottom : ℕ

abbrev pub frac : ℕ → ℕ → Fraction
frac a b = record { top = a; bottom = b }

abbrev pub IsFraction : Fraction → Type 0
IsFraction x = 0 < x.bottom

-- at most, less than, and equal, by cross products
abbrev pub Below : Fraction → Fraction → Type 0
Below x y = x.top * y.bottom ≤ y.top * x.bottom

abbrev pub StrictlyBelow : Fraction → Fraction → Type 0
StrictlyBelow x y = x.top * y.bottom < y.top * x.bottom

abbrev pub Same : Fraction → Fraction → Type 0
Same x y = x.top * y.bottom ≡ y.top * x.bottom

abbrev pub plus : Fraction → Fraction → Fraction
plus x y = frac (x.top * y.bottom + y.top * x.bottom) (x.bottom * y.bottom)

abbrev pub times : Fraction → Fraction → Fraction
times x y = frac (x.top * y.top) (x.bottom * y.bottom)

abbrev pub over : Fraction → Fraction → Fraction
over x y = frac (x.top * y.bottom) (x.bottom * y.top)

-- the sum of f 0 to f n
unfoldable pub sum_up : (ℕ → Fraction) → ℕ → Fraction
sum_up f zero = f 0
sum_up f (suc n) = plus (sum_up f n) (f (suc n))

-- "rounded up to a whole number", and down to one
abbrev pub round_up : Fraction → ℕ
round_up x = (x.top + (x.bottom - 1)) / x.bottom

abbrev pub round_down : Fraction → ℕ
round_down x = x.top / x.bottom

-- p billionths, how many billionths x is, and the m-th part of 1
abbrev pub billionths : ℕ → Fraction
billionths p = frac p billion

abbrev pub in_billionths : Fraction → Fraction
in_billionths x = frac (x.top * billion) x.bottom

abbrev pub part : ℕ → Fraction
part m = frac 1 m
