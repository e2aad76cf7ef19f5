-- The rest of a text whose parts a mark sets apart. It begins with a mark, behind which its first part stands; an empty rest has no parts.
-- So "no part" and "an empty part" are two things. Assumes nothing.
use Rattle.std.specs.Prelude.{◌≡◌, ℕ, suc, ◌+◌, ◌≤◌, ◌<◌, Bool, true, false, cond, length, take, drop, eqb}
use Rattle.std.proofs.Math.Path.{refl}
use Rattle.std.proofs.Common.{arith}
use mathlib.Core.List.{List, [], ◌∷◌, head_d, tail}
use Rattle.std.proofs.Math.ListN.{length-drop}
use Rattle.std.proofs.Math.Seq.{length-take-le}
use Rattle.csl.specs.Text.{Text}
use Rattle.csl.specs.Line.{ahead, parts}
use Rattle.texts.specs.Span.{span_of, span_within}

-- the parts of a rest
unfoldable pub parts_behind : ℕ → Text → List Text
parts_behind mark [] = []
parts_behind mark (b ∷ t) = parts mark t

-- the rest behind the first part of a text, and of a rest
abbrev pub behind_first : ℕ → Text → Text
behind_first mark t = drop (span_of mark t) t

unfoldable pub after_part : ℕ → Text → Text
after_part mark s = behind_first mark (drop 1 s)

-- the first part of a text, and the rest behind it
pub parts_first : (mark : ℕ) (s : Text) → parts mark s ≡ take (span_of mark s) s ∷ parts_behind mark (drop (span_of mark s) s)
unfolding parts span_of ahead parts_behind
parts_first mark [] = refl
parts_first mark (b ∷ s) = go (eqb b mark) (parts_first mark s)
  where
    go : (p : Bool) → parts mark s ≡ take (span_of mark s) s ∷ parts_behind mark (drop (span_of mark s) s)
        → cond p ([] ∷ parts mark s) (ahead b (parts mark s))
        ≡ take (cond p 0 (suc (span_of mark s))) (b ∷ s) ∷ parts_behind mark (drop (cond p 0 (suc (span_of mark s))) (b ∷ s))
    go true ih = refl
    go false ih = rw ih

module _ (mark : ℕ) where
  -- an empty rest, and one that is not
  pub behind_none : (s : Text) → length s ≤ 0 → parts_behind mark s ≡ []
  unfolding parts_behind
  behind_none [] h = refl
  behind_none (b ∷ t) h = absurd (omega arith)

  pub behind_some : (s : Text) → 0 < length s → parts_behind mark s ≡ head_d (parts_behind mark s) [] ∷ parts_behind mark (after_part mark s)
  unfolding parts_behind after_part head_d
  behind_some [] h = absurd (omega arith)
  behind_some (b ∷ t) h = rw (parts_first mark t)

  -- the first part of a rest, and the rest after it
  pub behind_head : (s : Text) → head_d (parts_behind mark s) [] ≡ take (span_of mark (drop 1 s)) (drop 1 s)
  unfolding parts_behind head_d span_of
  behind_head [] = refl
  behind_head (b ∷ t) = rw (parts_first mark t)

  pub behind_tail : (s : Text) → tail (parts_behind mark s) ≡ parts_behind mark (after_part mark s)
  unfolding parts_behind after_part span_of
  behind_tail [] = refl
  behind_tail (b ∷ t) = rw (parts_first mark t)

  -- a part and the rest after it are no longer than the rest before
  pub behind_length : (s : Text) → length (head_d (parts_behind mark s) []) + length (after_part mark s) ≤ length s
  unfolding after_part
  behind_length s =
      let w = span_within mark (drop 1 s) in
      rw (behind_head, length-take-le _ _ w, length-drop) (omega (arith, length-drop 1 s))

  -- and shorter by the mark, where there is one
  pub behind_shorter : (s : Text) → 1 ≤ length s → 1 + (length (head_d (parts_behind mark s) []) + length (after_part mark s)) ≤ length s
  unfolding after_part
  behind_shorter s h =
      let w = span_within mark (drop 1 s) in
      rw (behind_head, length-take-le _ _ w, length-drop) (omega (arith, length-drop 1 s))

  pub after_within : (s : Text) → length (after_part mark s) ≤ length s
  after_within s = omega (arith, behind_length s)
