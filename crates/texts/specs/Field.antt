-- A number of a sheet that a byte ends. Assumes nothing.
use Rattle.std.specs.Prelude.{◌≡◌, ℕ, ◌+◌, ◌≤◌, ◌<◌, cond, length, get_or, eqb, leb, Option, Some, None}
use Rattle.csl.specs.Text.{Text}
use Rattle.csl.specs.Limits.{sheet_digits}
use Rattle.csl.specs.Number.{value_of}
use Rattle.texts.specs.Digits.{digit_run, number_at, read}
use Rattle.texts.specs.declared.digits.Numeral.{Numeral}

-- the byte `end` stands right behind the number
abbrev pub ended_by : ℕ → Text → Option Numeral → Option Numeral
ended_by end t None = None
ended_by end t (Some r) = cond (leb (length t) r.used) None (cond (eqb (get_or t r.used 0) end) (read r.value (r.used + 1)) None)

unfoldable pub field_at : ℕ → Text → Option Numeral
field_at end t = ended_by end t (number_at sheet_digits t)

-- a field read from `size` bytes
abbrev pub FieldFits : ℕ → Option Numeral → Type 0
FieldFits size (Some r) = (r.value < 1000000000) × (2 ≤ r.used) × (r.used ≤ size)
FieldFits size None = 0 ≤ size

-- digits at the start of t, no more than a number of a sheet has, and a byte behind them
abbrev pub HasDigits : Text → Type 0
HasDigits t = (length (digit_run t) ≤ sheet_digits) × (length (digit_run t) < length t)

-- the number that they spell: its value, and its bytes with the one that ends it
pub record KnownAt (t : Text) (value used : ℕ) : Type 0 where
  pub value_is : value ≡ value_of (digit_run t)
  pub used_is : used ≡ length (digit_run t) + 1
  pub within : used ≤ length t
  pub small : value < 1000000000
