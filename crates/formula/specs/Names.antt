-- Names and their places. Assumes nothing.
use Rattle.std.specs.Prelude.{◌≡◌, refl, suc, Bool, true, false, cond, ◌||◌, List, [], ◌∷◌, length, get_or, ltb}
use Rattle.std.proofs.Common.{◌∙◌, arith, lt-ltb, le-ltb}
use Rattle.std.proofs.lemmas.Bool.{false≢true}
use Rattle.std.proofs.Math.Dec.{leb-suc-suc}
use Rattle.csl.specs.Text.{Text, same, among}
use Rattle.csl.specs.Labels.{place_of}
use Rattle.csl.proofs.Laws.Grammar.{same_true}

-- among names, by the place
pub among_place : (names : List Text) (w : Text) → ltb (place_of names w) (length names) ≡ among names w
unfolding place_of among
among_place [] w = le-ltb 0 0 (omega arith)
among_place (x ∷ xs) w = go (same x w) (among_place xs w)
  where
    go : (p : Bool) → ltb (place_of xs w) (length xs) ≡ among xs w
        → ltb (cond p 0 (suc (place_of xs w))) (suc (length xs)) ≡ (p || among xs w)
    go true ih = lt-ltb 0 (suc (length xs)) (omega arith)
    go false ih = leb-suc-suc (suc (place_of xs w)) (length xs) ∙ ih

-- at the place of a name stands the name
pub name_at : (names : List Text) (w : Text) → among names w ≡ true → get_or names (place_of names w) [] ≡ w
unfolding among place_of
name_at [] w h = absurd (false≢true h)
name_at (x ∷ xs) w h = go (same x w) refl (name_at xs w) h
  where
    go : (b : Bool) → same x w ≡ b → (among xs w ≡ true → get_or xs (place_of xs w) [] ≡ w) → (b || among xs w) ≡ true
        → get_or (x ∷ xs) (cond b 0 (suc (place_of xs w))) [] ≡ w
    go true e ih k = same_true x w e
    go false e ih k = ih k
