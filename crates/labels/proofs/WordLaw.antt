-- The word of marks, mark by mark. Assumes nothing.
use mathlib.Core.Path.{◌≡◌, refl, ◌∙◌}
use Prim.Native.Nat.{ℕ, zero, suc, ◌+◌, ◌*◌, ◌-◌, ◌%◌, ◌^◌, ◌≤◌, ◌<◌}
use native.Mathlib.Omega.{arith}
use native.Mathlib.Numerals.{add-one}
use native.Mathlib.Nat.{pow-suc, pow-le-pow_right, sub_self}
use mathlib.Core.Bool.{Bool, true, false, cond, ◌&&◌, and-true, and-eq-true_iff}
use mathlib.Core.List.{[], ◌∷◌}
use lib.ListN.{length, get_or, drop, length-drop}
use lib.Dec.{eqb}
use borrow.Author.Tests.{ltb-true, ne_eqb}
use Rattle.std.proofs.lemmas.List.{get_or-drop, drop-drop}
use Rattle.csl.specs.Text.{Text, same, every}
use Rattle.csl.specs.Line.{line_feed}
use Rattle.csl.specs.Labels.{is_mark}
use Rattle.texts.specs.Span.{span_of}
use Rattle.texts.specs.LineAt.{is_ended_at, fields_at}
use Rattle.texts.specs.FieldsPass.{fields_pass}
use Rattle.texts.specs.Marks.{marks_bytes, marks_first, marks_only}
use Rattle.labels.specs.Left.{marks_left, fields_left}
use Rattle.labels.specs.Words.{mark_bit, marks_word}

-- a mark more
record Next (n : ℕ) (t : Text) : Type 0 where
  first : fields_left n t ≡ (get_or t 0 0 ∷ []) ∷ fields_left (n - 1) (drop 2 t)
  rest : marks_left (n - 1) (drop 2 t) ≡ true

next : (n : ℕ) (t : Text) → 0 < n → marks_left n t ≡ true → Next n t
unfolding marks_left fields_left
next zero t l h = absurd (omega arith)
next (suc zero) t l h = record { first = marks_only t h; rest = refl }
next (suc (suc k)) t l h =
    let e : suc (suc k) - 1 ≡ suc k = omega arith in
    record { first = rw e (marks_first k t h).0; rest = rw e (marks_first k t h).1 }

pub mark_bytes : (n : ℕ) (t : Text) → 0 < n → marks_left n t ≡ true → 2 ≤ length t
unfolding marks_left fields_pass is_ended_at
mark_bytes zero t l h = absurd (omega arith)
mark_bytes (suc k) t l h =
    let p = (and-eq-true_iff (is_ended_at t && eqb (length (fields_at t)) (suc k)) (every is_mark (fields_at t))).0 h in
    let q = (and-eq-true_iff (is_ended_at t) (eqb (length (fields_at t)) (suc k))).0 p.0 in
    omega (arith, marks_bytes k t h, ltb-true (span_of line_feed t) (length t) q.0)

one_bit : (a : ℕ) → mark_bit (a ∷ []) ≡ cond (eqb a 49) 1 0
unfolding same
one_bit a = rw (and-true (eqb a 49))

-- the marks left and the sum so far make the word
pub record Wording (s : Text) (count : ℕ) (t : Text) (left sum value : ℕ) : Type 0 where
  pub within : left ≤ count
  pub most : count ≤ 16
  pub marks : marks_left left t ≡ true
  pub whole : sum + value * marks_word (fields_left left t) ≡ marks_word (fields_left count s)
  pub power : value ≡ 2 ^ (count - left)
  pub below : sum < value

module _ (s : Text) (count : ℕ) where
  pub start : count ≤ 16 → marks_left count s ≡ true → Wording s count s count 0 1
  start m h = record { within = omega arith; most = m; marks = h; whole = omega arith; power = rw (sub_self count); below = omega arith }

  module _ (t : Text) (left sum value : ℕ) (v : Wording s count t left sum value) where
    module _ (l : 0 < left) where
      pub turn : (b : ℕ) → b ≡ cond (eqb (get_or t 0 0) 49) value 0 → Wording s count (drop 2 t) (left - 1) (sum + b) (value * 2)
      unfolding marks_word
      turn b e =
          let n = next left t l v.marks in
          record {
            within = omega (arith, v.within);
            most = v.most;
            marks = n.rest;
            whole = add (eqb (get_or t 0 0) 49) e (rw (n.first, one_bit (get_or t 0 0)) at v.whole);
            power = grows v.within v.power;
            below = small_sum (eqb (get_or t 0 0) 49) e;
          }
        where
          grows : left ≤ count → value ≡ 2 ^ (count - left) → value * 2 ≡ 2 ^ (count - (left - 1))
          grows w p = let q : count - (left - 1) ≡ suc (count - left) = omega arith in rw (q, pow-suc 2 (count - left), p)

          small_sum : (x : Bool) → b ≡ cond x value 0 → sum + b < value * 2
          small_sum true q = omega (arith, v.below)
          small_sum false q = omega (arith, v.below)

          add : (x : Bool) → b ≡ cond x value 0
              → sum + value * (cond x 1 0 + 2 * marks_word (fields_left (left - 1) (drop 2 t))) ≡ marks_word (fields_left count s)
              → sum + b + value * 2 * marks_word (fields_left (left - 1) (drop 2 t)) ≡ marks_word (fields_left count s)
          add true q h = omega (arith, q, h)
          add false q h = omega (arith, q, h)

    pub done : left ≤ 0 → sum ≡ marks_word (fields_left count s)
    unfolding marks_word fields_left
    done h = let e : left ≡ 0 = omega arith in omega (arith, rw e at v.whole)

-- the place that the code reads, and what it adds there
module _ {s : Text} {count i sum : ℕ} (v : Wording s count (drop (2 * i) s) (count - i) sum (2 ^ i)) (l : i < count) where
  pub mark_there : 2 * i < length s
  mark_there = omega (arith, length-drop (2 * i) s, mark_bytes (count - i) (drop (2 * i) s) (omega arith) v.marks)

  mark_on : (b : ℕ) → b ≡ cond (eqb (get_or s (2 * i) 0) 49) (2 ^ i) 0
      → Wording s count (drop (2 * (i + 1)) s) (count - (i + 1)) (sum + b) (2 ^ (i + 1))
  mark_on b e =
      let place : 2 * i + 0 ≡ 2 * i = omega arith in
      let next : 2 * (i + 1) ≡ 2 * i + 2 = omega arith in
      let fewer : count - (i + 1) ≡ count - i - 1 = omega arith in
      let power : 2 ^ (i + 1) ≡ 2 ^ i * 2 = rw (add-one i, pow-suc 2 i) (omega arith) in
      rw (next, ← drop-drop 2 (2 * i) s, fewer, power)
      (turn s count (drop (2 * i) s) (count - i) sum (2 ^ i) v (omega arith) b (e ∙ rw (get_or-drop (2 * i) s 0 0, place)))

  -- the bit `1 << i`, in 64 bits
  bit_fits : 1 * 2 ^ i % 18446744073709551616 ≡ 2 ^ i
  bit_fits =
      let few : i ≤ 16 = omega (arith, v.most) in
      let b : 2 ^ i ≤ 2 ^ 16 = pow-le-pow_right {n = 2} (omega arith) few in
      omega arith

  pub mark_yes : get_or s (2 * i) 0 ≡ 49
      → Wording s count (drop (2 * (i + 1)) s) (count - (i + 1)) (sum + 1 * 2 ^ i % 18446744073709551616) (2 ^ (i + 1))
  mark_yes h = rw bit_fits (mark_on (2 ^ i) (rw h))

  pub mark_no : (get_or s (2 * i) 0 ≡ 49 → ⊥) → Wording s count (drop (2 * (i + 1)) s) (count - (i + 1)) sum (2 ^ (i + 1))
  mark_no h = let e : sum + 0 ≡ sum = omega arith in rw e at (mark_on 0 (rw (ne_eqb (get_or s (2 * i) 0) 49 h)))
