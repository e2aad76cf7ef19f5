use mathlib.Core.Path.{◌≡◌, ap, ◌∙◌}
use mathlib.Core.Bool.{Bool, true, false, cond}
use mathlib.Core.List.{List}
use Prim.Native.Nat.{ℕ, ◌+◌}
use native.Mathlib.Nat.{zero-add}
use Rattle.vectors.specs.Places.{at}
use Rattle.until.specs.Reading.{end_of}

-- the end that a reading starts from, by where its column begins
pub end_at_lem : (b : Bool) (l : List ℕ) (n from s : ℕ) → from ≡ cond b n 0 → at l (from + s) ≡ end_of b l n s
end_at_lem true l n from s e = ap (λ (x : ℕ). at l (x + s)) e
end_at_lem false l n from s e = ap (λ (x : ℕ). at l (x + s)) e ∙ ap (at l) (zero-add s)
