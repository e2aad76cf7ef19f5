-- How far a mark is from the start of a text. Assumes nothing.
use Rattle.std.specs.Prelude.{◌≡◌, refl, ℕ, suc, ◌≤◌, ◌<◌, Bool, true, false, cond, [], ◌∷◌, length, get_or, eqb}
use Rattle.std.proofs.Common.{arith, eqb-true}
use Rattle.csl.specs.Text.{Text}

-- how many bytes stand before the first `mark`, all of them where there is none
unfoldable pub span_of : ℕ → Text → ℕ
span_of mark [] = 0
span_of mark (b ∷ t) = cond (eqb b mark) 0 (suc (span_of mark t))

pub span_within : (mark : ℕ) (s : Text) → span_of mark s ≤ length s
unfolding span_of
span_within mark [] = omega arith
span_within mark (b ∷ s) = go (eqb b mark) (span_within mark s)
  where
    go : (p : Bool) → span_of mark s ≤ length s → cond p 0 (suc (span_of mark s)) ≤ suc (length s)
    go true ih = omega arith
    go false ih = omega arith

-- at the span stands the mark
pub span_mark : (mark : ℕ) (s : Text) → span_of mark s < length s → get_or s (span_of mark s) 0 ≡ mark
unfolding span_of
span_mark mark [] h = absurd (omega arith)
span_mark mark (b ∷ s) h = go (eqb b mark) refl h (span_mark mark s)
  where
    go : (p : Bool) → eqb b mark ≡ p → cond p 0 (suc (span_of mark s)) < suc (length s)
        → (span_of mark s < length s → get_or s (span_of mark s) 0 ≡ mark) → get_or (b ∷ s) (cond p 0 (suc (span_of mark s))) 0 ≡ mark
    go true e l ih = eqb-true _ _ e
    go false e l ih = ih (omega arith)
