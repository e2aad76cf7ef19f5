-- What is cut out of a text, and out of a rest. Assumes nothing.
use mathlib.Core.Path.{◌≡◌}
use Prim.Native.Nat.{ℕ, ◌-◌}
use mathlib.Core.List.{[], ◌∷◌, head_d}
use lib.ListN.{length, take, drop}
use Rattle.csl.specs.Text.{Text}
use Rattle.csl.specs.Line.{parts}
use Rattle.texts.specs.Span.{span_of}
use Rattle.texts.specs.Cut.{rest_is}
use Rattle.texts.specs.Behind.{parts_behind, behind_first, parts_first}

module _ (mark : ℕ) where
  -- n bytes of a text stand before its first mark
  pub first_taken : (t : Text) (n : ℕ) → n ≡ span_of mark t → take n t ≡ head_d (parts mark t) []
  unfolding head_d
  first_taken t n e = rw (parts_first, e)

  pub first_dropped : (t : Text) (n : ℕ) → n ≡ span_of mark t → take (length t - n) (drop n t) ≡ behind_first mark t
  first_dropped t n e = rw (rest_is, e)

  -- the first part of a rest is that of the text behind its mark
  pub part_behind : (s t r : Text) → t ≡ drop 1 s → r ≡ head_d (parts mark t) [] → r ≡ head_d (parts_behind mark s) []
  unfolding parts_behind parts head_d
  part_behind [] t r e f = rw e at f
  part_behind (b ∷ u) t r e f = rw e at f

pub ruleset cut_laws = (first_taken, first_dropped, part_behind)
