-- "Hours with decimals": "The hours in a formula may now carry one or two decimals after a point, with no trailing zero: `8.25` and `8.5`
-- are good, `8.50` breaks the grammar; the 10 digits count before the point." Assumes nothing.
use Rattle.std.specs.Prelude.{ℕ, ◌+◌, ◌*◌, Bool, false, cond, not, ◌&&◌, List, [], ◌∷◌, eqb, Option, None, Some}
use Rattle.csl.specs.Text.{Text}
use Rattle.csl.specs.Limits.{formula_digits, hour}
use Rattle.csl.specs.Number.{is_digit, is_number, value_of}
use Rattle.csl.specs.Line.{parts}

abbrev pub point : ℕ
point = 46

-- one or two decimals, the last of them not 0
unfoldable pub is_decimals : Text → Bool
is_decimals [] = false
is_decimals (d ∷ []) = is_digit d && not (eqb d 48)
is_decimals (d ∷ e ∷ []) = is_digit d && is_digit e && not (eqb e 48)
is_decimals (d ∷ e ∷ f ∷ s) = false

-- the hundredths that they stand for: one alone stands for tenths
unfoldable pub decimals_of : Text → ℕ
decimals_of [] = 0
decimals_of (d ∷ []) = value_of (d ∷ []) * 10
decimals_of (d ∷ e ∷ s) = value_of (d ∷ e ∷ s)

-- what the point sets apart: hours are a number, or a number and decimals
unfoldable pub hundredths_in : List Text → Option ℕ
hundredths_in [] = None
hundredths_in (w ∷ []) = cond (is_number formula_digits w) (Some (value_of w * hour)) None
hundredths_in (w ∷ x ∷ []) = cond (is_number formula_digits w && is_decimals x) (Some (value_of w * hour + decimals_of x)) None
hundredths_in (w ∷ x ∷ y ∷ l) = None

-- "The reader of hours .. hands back hundredths": those that a token spells, if it spells hours
unfoldable pub hundredths_of : Text → Option ℕ
hundredths_of w = hundredths_in (parts point w)
