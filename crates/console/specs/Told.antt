-- Whether a refusal is told, and its number. Assumes nothing.
use Rattle.std.specs.Prelude.{◌≡◌, Bool, true, false, ℕ, Option, None, Some}
use Rattle.verdicts.specs.Refusal.{number_of}
use Rattle.verdicts.specs.declared.refusal.Refusal.{Refusal}

-- the number of a refusal, if there is one
abbrev pub number_told : Option Refusal → Option ℕ
number_told (Some refusal) = Some (number_of refusal)
number_told None = None

-- whether there is one
abbrev pub Told : Option ℕ → Bool → Type 0
Told (Some number) told = told ≡ true
Told None told = told ≡ false
