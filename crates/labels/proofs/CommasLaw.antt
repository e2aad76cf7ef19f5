-- As many names as commas. Assumes nothing.
use mathlib.Core.Path.{◌≡◌, refl, ◌∙◌}
use Prim.Native.Nat.{ℕ, suc, ◌+◌, ◌≤◌, ◌<◌}
use native.Mathlib.Omega.{arith}
use mathlib.Core.Bool.{Bool, true, false, cond}
use mathlib.Core.List.{List, [], ◌∷◌, head_d, tail}
use lib.ListN.{length, drop, drop_of_length-le}
use lib.Seq.{drop-cons}
use lib.Dec.{ltb, eqb}
use borrow.Author.Tests.{ltb-true, ltb-false}
use Rattle.std.proofs.lemmas.List.Sums.{sum_by-cons}
use Rattle.csl.specs.Text.{Text}
use Rattle.csl.specs.Line.{comma, parts, ahead, fields_of}
use Rattle.texts.specs.Span.{span_of, span_mark}
use Rattle.texts.specs.LineAt.{fields_some}
use Rattle.texts.specs.Behind.{parts_behind, behind_first}
use Rattle.labels.specs.FirstLine.{commas_in}

-- byte by byte
commas_byte : (b : ℕ) (t : Text) → commas_in (b ∷ t) ≡ cond (eqb b comma) (commas_in t + 1) (commas_in t)
commas_byte b t = sum_by-cons (λ x. cond (eqb x comma) 1 0) b t ∙ go (eqb b comma)
  where
    go : (p : Bool) → cond p 1 0 + commas_in t ≡ cond p (commas_in t + 1) (commas_in t)
    go true = omega arith
    go false = omega arith

-- the fields of a line are one more than its commas
pub commas_fields : (s : Text) → length (fields_of s) ≡ commas_in s + 1
unfolding fields_of parts ahead
commas_fields [] = refl
commas_fields (b ∷ s) = rw (commas_byte b s) (go (eqb b comma) (parts comma s) (commas_fields s) (fields_some s))
  where
    go : (p : Bool) (ps : List Text) → length ps ≡ commas_in s + 1 → ps ≡ head_d ps [] ∷ tail ps
        → length (cond p ([] ∷ ps) (ahead b ps)) ≡ cond p (commas_in s + 1) (commas_in s) + 1
    go true ps h k = omega arith
    go false [] h k = absurd (omega arith)
    go false (x ∷ ps) h k = h

-- the names behind the first part of a line are as many as the commas before them
pub commas_names : (s : Text) → length (parts_behind comma (behind_first comma s)) ≡ commas_in (behind_first comma s)
unfolding parts_behind fields_of
commas_names s = go (ltb (span_of comma s) (length s)) refl
  where
    go : (x : Bool) → ltb (span_of comma s) (length s) ≡ x → length (parts_behind comma (behind_first comma s)) ≡ commas_in (behind_first comma s)
    go true e =
        let h : span_of comma s < length s = ltb-true _ _ e in
        rw (drop-cons s (span_of comma s) 0 h, span_mark comma s h, commas_byte comma (drop (suc (span_of comma s)) s))
        (commas_fields (drop (suc (span_of comma s)) s))
    go false e = let h : length s ≤ span_of comma s = ltb-false _ _ e in rw (drop_of_length-le s h)
