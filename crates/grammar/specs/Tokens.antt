-- The rest of a formula: its tokens, and the bytes that they take. Assumes nothing.
use Rattle.std.specs.Prelude.{◌≡◌, Bool, cond, length, eqb}
use Rattle.std.proofs.Math.Path.{refl}
use Prim.Native.Nat.{ℕ, zero, suc, ◌+◌, ◌-◌, ◌≤◌}
use native.Mathlib.Omega.{arith}
use mathlib.Core.List.{List, [], ◌∷◌, head_d, tail}
use Rattle.std.proofs.Math.Bool.{true, false}
use Rattle.std.proofs.Math.ListN.{drop}
use Rattle.std.proofs.Common.{length-drop, drop-drop}
use Rattle.std.proofs.Math.Seq.{drop-nil}
use Rattle.std.proofs.Math.Nat.{sub_self}
use Rattle.csl.specs.Text.{Text}
use Rattle.csl.specs.Line.{space, ahead, parts}
use Rattle.texts.specs.Span.{span_of, span_within}
use Rattle.texts.specs.Behind.{parts_behind, after_part, parts_first, behind_tail, behind_length, after_within}
use Rattle.grammar.specs.Left.{Last}

-- the tokens of what is left of a formula
abbrev pub tokens : Text → List Text
tokens s = parts_behind space s

-- the bytes that parts take, each with a mark in front
unfoldable pub bytes_of : List Text → ℕ
bytes_of [] = 0
bytes_of (w ∷ ws) = suc (length w + bytes_of ws)

module _ (mark : ℕ) where
  bytes_parts : (t : Text) → bytes_of (parts mark t) ≡ suc (length t)
  unfolding parts bytes_of ahead
  bytes_parts [] = refl
  bytes_parts (b ∷ t) = go (eqb b mark) (bytes_parts t)
    where
      go : (p : Bool) → bytes_of (parts mark t) ≡ suc (length t) → bytes_of (cond p ([] ∷ parts mark t) (ahead b (parts mark t))) ≡ suc (suc (length t))
      go true ih = rw ih (omega arith)
      go false ih = let h = rw parts_first at ih in rw parts_first (omega arith)

  -- a rest is as long as its parts with their marks
  pub bytes_behind : (s : Text) → bytes_of (parts_behind mark s) ≡ length s
  unfolding parts_behind bytes_of
  bytes_behind [] = refl
  bytes_behind (b ∷ t) = bytes_parts t

  bytes_drop : (j : ℕ) (ws : List Text) → bytes_of (drop j ws) ≤ bytes_of ws
  unfolding bytes_of
  bytes_drop zero ws = omega arith
  bytes_drop (suc j) [] = omega arith
  bytes_drop (suc j) (w ∷ ws) = omega (arith, bytes_drop j ws)

  -- the last m bytes of a text are those of each of its ends that is long enough
  shorter : (b : ℕ) (t : Text) (n m : ℕ) → n ≤ length t → m ≤ length (drop n t)
      → drop (suc (length t) - m) (b ∷ t) ≡ drop (length (drop n t) - m) (drop n t)
  shorter b t n m h k =
      let d = length-drop n t in
      let e : suc (length t) - m ≡ suc (length t - m) = omega arith in
      let f : n + (length (drop n t) - m) ≡ length t - m = omega arith in
      rw (e, drop-drop, f)

  -- the last parts of a rest are the parts of its last bytes
  ending : (j : ℕ) (s : Text) → parts_behind mark (drop (length s - bytes_of (drop j (parts_behind mark s))) s) ≡ drop j (parts_behind mark s)
  unfolding parts_behind
  ending zero s = rw (bytes_behind s, sub_self)
  ending (suc j) [] = rw drop-nil
  ending (suc j) (b ∷ t) =
      let u = drop (span_of mark t) t in
      rw (
        parts_first,
        shorter b t (span_of mark t) (bytes_of (drop j (parts_behind mark u))) (span_within mark t) (omega (arith, bytes_drop j (parts_behind mark u), bytes_behind u)),
      )
      (ending j u)

  pub last_behind : (s : Text) (rest : List Text) → Last (parts_behind mark s) rest → parts_behind mark (drop (length s - bytes_of rest) s) ≡ rest
  last_behind s rest l = rw l.is (ending l.cut s)

-- w is the first token of the rest s, and t the rest after it
pub token_within : (s w t : Text) → w ≡ head_d (tokens s) [] → t ≡ after_part space s → length w + length t ≤ length s
token_within s w t e f = rw (e, f) (behind_length space s)

-- t is the rest s after its first token, its first two, or its first three
pub one_within : (s t : Text) → t ≡ after_part space s → length t ≤ length s
one_within s t e = rw e (after_within space s)

pub two_within : (s t : Text) → t ≡ after_part space (after_part space s) → length t ≤ length s
two_within s t e = rw e (omega (arith, after_within space (after_part space s), after_within space s))

pub three_within : (s t : Text) → t ≡ after_part space (after_part space (after_part space s)) → length t ≤ length s
three_within s t e = rw e (omega (arith, one_within (after_part space (after_part space s)) _ refl, two_within s _ refl))

pub one_tail : (s t : Text) → t ≡ after_part space s → tail (tokens s) ≡ tokens t
one_tail s t e = rw (e, behind_tail)

pub two_tail : (s t : Text) → t ≡ after_part space (after_part space s) → tail (tail (tokens s)) ≡ tokens t
two_tail s t e = rw (e, behind_tail, behind_tail)

pub three_tail : (s t : Text) → t ≡ after_part space (after_part space (after_part space s)) → tail (tail (tail (tokens s))) ≡ tokens t
three_tail s t e = rw (e, behind_tail, behind_tail, behind_tail)
