-- "A number is digits without a leading zero, or 0 alone, of at most 10 digits in the formula and 9 elsewhere." Assumes nothing.
use Rattle.std.specs.Prelude.{ℕ, ◌+◌, ◌*◌, ◌-◌, Bool, false, not, ◌&&◌, [], ◌∷◌, length, leb, eqb}
use Rattle.csl.specs.Text.{Text, every}

-- `0` to `9`
abbrev pub is_digit : ℕ → Bool
is_digit b = leb 48 b && leb b 57

-- more than one digit, the first of them 0
unfoldable pub zero_led : Text → Bool
zero_led [] = false
zero_led (b ∷ []) = false
zero_led (b ∷ c ∷ s) = eqb b 48

-- a number of at most so many digits
unfoldable pub is_number : ℕ → Text → Bool
is_number most s = every is_digit s && leb 1 (length s) && leb (length s) most && not (zero_led s)

-- what digits stand for, behind digits that stand for v
unfoldable pub value_from : ℕ → Text → ℕ
value_from v [] = v
value_from v (b ∷ s) = value_from (v * 10 + (b - 48)) s

abbrev pub value_of : Text → ℕ
value_of s = value_from 0 s
