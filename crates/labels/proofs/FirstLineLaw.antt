-- A name and a first line by their tests, in the code's order. Assumes nothing.
use mathlib.Core.Path.{◌≡◌, refl, sym, ◌∙◌}
use Prim.Native.Nat.{ℕ, ◌≤◌, ◌<◌}
use mathlib.Core.Bool.{Bool, true, false, not, ◌&&◌}
use mathlib.Core.List.{[], ◌∷◌, head_d}
use lib.ListN.{length}
use borrow.Author.Tests.{le-leb, lt-leb, not-true, not-false}
use Rattle.std.specs.Prelude.{nat_eq}
use Rattle.std.specs.Cmp.Lexicographic.{pointwise}
use Rattle.texts.proofs.Same.{equal_is}
use Rattle.csl.specs.Text.{Text, bytes, same, every}
use Rattle.csl.specs.Limits.{most_names}
use Rattle.csl.specs.Line.{comma, parts, fields_of, first_line}
use Rattle.csl.specs.Labels.{is_word, is_name, no_repeat, names_of, labels_head}
use Rattle.texts.specs.Behind.{parts_behind, behind_first, parts_first}
use Rattle.labels.specs.FirstLine.{commas_in, is_first_line}
use Rattle.labels.proofs.CommasLaw.{commas_names}

pub first_line_lem : (labels : Text) → is_first_line (first_line labels) ≡ labels_head labels
unfolding is_first_line labels_head names_of
first_line_lem labels = refl

module _ (w : Text) {word : Bool} (is : word ≡ is_word w) where
  pub name_other : not word ≡ true → false ≡ is_name w
  unfolding is_name
  name_other h = rw (← is, not-true word h)

  -- what `!=` tells of the two words that are no names
  module _ (h : not word ≡ false) {other : Bool} (by-tt : other ≡ not (pointwise nat_eq w (bytes "tt"))) where
    name_by : other && not (same w (bytes "state")) ≡ is_name w
    unfolding is_name
    name_by = rw (by-tt, equal_is w (bytes "tt"), ← is, not-false word h)

    pub name_tt : other ≡ false → other ≡ is_name w
    name_tt e = e ∙ rw e at name_by

    pub name_last : other ≡ true → {last : Bool} → last ≡ not (pointwise nat_eq w (bytes "state")) → last ≡ is_name w
    name_last e by_state = by_state ∙ rw (equal_is w (bytes "state")) (rw e at name_by)

-- x is the first part of a line; what the calls answer: whether x is not `state`, the commas, whether the names are good, and that none repeats
module _ (line x : Text) (part : x ≡ head_d (parts comma line) []) {other : Bool} (first : other ≡ not (pointwise nat_eq x (bytes "state"))) where
  pub head_other : other ≡ true → false ≡ is_first_line line
  unfolding is_first_line fields_of
  head_other h = rw (← part, ← equal_is x (bytes "state"), not-true (pointwise nat_eq x (bytes "state")) (sym first ∙ h))

  -- s is the rest behind it
  module _ (is_state : other ≡ false) (s : Text) (behind : s ≡ behind_first comma line) (c : ℕ) (commas : c ≡ commas_in s) where
    state_first : same x (bytes "state") ≡ true
    state_first = sym (equal_is x (bytes "state")) ∙ not-false (pointwise nat_eq x (bytes "state")) (sym first ∙ is_state)

    line_fields : fields_of line ≡ x ∷ parts_behind comma s
    unfolding fields_of head_d
    line_fields = rw (part, behind, parts_first comma line)

    counted : length (parts_behind comma s) ≡ c
    counted = rw behind (commas_names line) ∙ sym (rw behind at commas)

    pub head_many : most_names < c → false ≡ is_first_line line
    unfolding is_first_line head_d
    head_many l = rw (line_fields, state_first, counted, lt-leb c most_names l)

    module _ (few : c ≤ most_names) {good : Bool} (names : good ≡ every is_name (parts_behind comma s)) where
      pub head_bad : good ≡ false → good ≡ is_first_line line
      unfolding is_first_line head_d
      head_bad h = rw (line_fields, state_first, counted, le-leb c most_names few, ← names, h)

      pub head_last : good ≡ true → {r : Bool} → r ≡ no_repeat (parts_behind comma s) → r ≡ is_first_line line
      unfolding is_first_line head_d
      head_last h q = q ∙ rw (line_fields, state_first, counted, le-leb c most_names few, ← names, h)

pub ruleset first_laws = (name_other, name_tt, name_last, head_other, head_many, head_bad, head_last)
