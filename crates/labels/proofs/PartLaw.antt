-- The names of a first line that is right, as a part of the labels text. Assumes nothing.
use mathlib.Core.Path.{◌≡◌, refl, sym, ap, ◌∙◌}
use Prim.Native.Nat.{ℕ, ◌<◌}
use native.Mathlib.Omega.{arith}
use mathlib.Core.Bool.{Bool, true, false, false≢true, and-eq-true_iff}
use mathlib.Core.List.{[], head_d, tail}
use lib.ListN.{length, take}
use lib.Seq.{length-take-le}
use lib.Dec.{ltb}
use borrow.Author.Tests.{ltb-true, ltb-false}
use Rattle.csl.specs.Text.{Text, bytes, same}
use Rattle.csl.specs.Line.{line_feed, comma, parts, fields_of, first_line}
use Rattle.csl.specs.Labels.{names_of, labels_head}
use Rattle.texts.specs.Span.{span_of}
use Rattle.texts.specs.Cut.{first_cut, first_none}
use Rattle.texts.specs.Behind.{parts_behind, behind_first, parts_first}

module _ (labels : Text) (h : labels_head labels ≡ true) where
  word : same (head_d (fields_of (first_line labels)) []) (bytes "state") ≡ true
  unfolding labels_head
  word = ((and-eq-true_iff _ _).0 ((and-eq-true_iff _ _).0 ((and-eq-true_iff _ _).0 h).0).0).0

  -- the first line ends
  ends : span_of line_feed labels < length labels
  unfolding same fields_of parts head_d
  ends = go (ltb (span_of line_feed labels) (length labels)) refl
    where
      go : (x : Bool) → ltb (span_of line_feed labels) (length labels) ≡ x → span_of line_feed labels < length labels
      go true e = ltb-true _ _ e
      go false e = absurd (false≢true (rw (first_none labels (ltb-false _ _ e)) at word))

  module _ (first : ℕ) (at : first ≡ span_of line_feed labels) where
    pub first_counted : first ≡ length (take first labels)
    first_counted = sym (length-take-le first labels (omega (arith, ends)))

    pub names_behind : {r : Text} → r ≡ behind_first comma (take first labels) → parts_behind comma r ≡ names_of labels
    unfolding names_of fields_of
    names_behind e =
        ap (parts_behind comma) e
        ∙ ap (λ (n : ℕ). parts_behind comma (behind_first comma (take n labels))) at
        ∙ sym (ap (λ (l : Text). tail (parts comma l)) (first_cut labels ends) ∙ ap tail (parts_first comma (take (span_of line_feed labels) labels)))
