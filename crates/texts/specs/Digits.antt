-- The number at the start of a text. Assumes nothing.
use Rattle.std.specs.Prelude.{◌≡◌, ℕ, ◌≤◌, ◌<◌, cond, not, ◌&&◌, [], ◌∷◌, length, get_or, leb, ltb, eqb, Option, Some, None}
use Rattle.std.proofs.Common.{ap}
use Rattle.csl.specs.Text.{Text}
use Rattle.csl.specs.Number.{is_digit, is_number, value_of}
use Rattle.texts.specs.declared.digits.Numeral.{Numeral}

-- the digits at the start
unfoldable pub digit_run : Text → Text
digit_run [] = []
digit_run (b ∷ t) = cond (is_digit b) (b ∷ digit_run t) []

-- the number v, in n bytes
abbrev pub read : ℕ → ℕ → Option Numeral
read v n = Some (record { value = v; used = n })

-- the number that they spell, of at most `most` digits, and how many they are
unfoldable pub number_at : ℕ → Text → Option Numeral
number_at most t = cond (is_number most (digit_run t)) (read (value_of (digit_run t)) (length (digit_run t))) None

-- the number of value v that the n digits at the start of s spell, where it is one
abbrev pub settled : Text → ℕ → ℕ → Option Numeral
settled s v n = cond (leb 1 n && not (ltb 1 n && eqb (get_or s 0 0) 48)) (read v n) None

-- how many bytes a reading took
abbrev pub used_by : Option Numeral → ℕ
used_by (Some r) = r.used
used_by None = 0

-- the value that it gave
abbrev value_by : Option Numeral → ℕ
value_by (Some r) = r.value
value_by None = 0

-- one reading gives one value and takes one number of bytes
pub read_once : {v n w m : ℕ} → read v n ≡ read w m → (v ≡ w) × (n ≡ m)
read_once h = (ap value_by h, ap used_by h)

-- a number read from `size` bytes
abbrev pub NumberFits : ℕ → Option Numeral → Type 0
NumberFits size (Some r) = (r.value < 10000000000) × (1 ≤ r.used) × (r.used ≤ size)
NumberFits size None = 0 ≤ size
