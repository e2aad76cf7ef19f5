-- Whether a verdict is decided, and whether those of all states are. Assumes nothing.
use Rattle.std.specs.Prelude.{Bool, true, false, ◌&&◌, ◌⊎◌, ℕ, zero, suc}
use Rattle.csl.specs.Verdicts.{Verdict, No, Yes, Undecided}

abbrev pub is_decided : Verdict → Bool
is_decided No = true
is_decided Yes = true
is_decided Undecided = false

-- none of the first n states is undecided
unfoldable pub all_decided : ℕ → (ℕ → Verdict) → Bool
all_decided zero v = true
all_decided (suc n) v = all_decided n v && is_decided (v n)

-- so it is either way
abbrev pub Either : Type 0 → Type 0
Either A = A ⊎ (A → ⊥)
