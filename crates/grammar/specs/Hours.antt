-- What stands behind the point of hours: their decimals, if they are some. Assumes nothing.
use Rattle.std.specs.Prelude.{ℕ, cond, Option, None, Some}
use Rattle.csl.specs.Text.{Text}
use Rattle.csl.specs.Hours.{is_decimals, decimals_of}

-- the hundredths that they stand for
abbrev pub decimals_in : Text → Option ℕ
decimals_in s = cond (is_decimals s) (Some (decimals_of s)) None
