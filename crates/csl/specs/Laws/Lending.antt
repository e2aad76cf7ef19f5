-- The six lent buffers beside the marks: whether one is too short, and buffers that agree in them. Assumes nothing.
use Rattle.std.specs.Prelude.{◌≡◌, Bool, List, [], ◌∷◌, ℕ, ltb}
use Rattle.csl.specs.Text.{any}
use Rattle.csl.specs.Lent.{Buffers, needed, room}

-- whether one of the other six buffers is too short
abbrev pub others : Buffers ℕ → (n m : ℕ) → Bool
others l n m =
    any (λ r. ltb r.lent r.need)
    (room l.lower n ∷ room l.upper n ∷ room l.verdicts n ∷ room l.order n ∷ room l.moves (needed n m 0).moves
    ∷ room l.vectors (needed n m 0).vectors ∷ [])

-- buffers that hold the same but for the marks
pub record ButForMarks (x y : Buffers (List ℕ)) : Type 0 where
  pub lower : x.lower ≡ y.lower
  pub upper : x.upper ≡ y.upper
  pub verdicts : x.verdicts ≡ y.verdicts
  pub order : x.order ≡ y.order
  pub moves : x.moves ≡ y.moves
  pub vectors : x.vectors ≡ y.vectors
