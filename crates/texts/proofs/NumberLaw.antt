-- The number that counted digits spell. Assumes nothing.
use mathlib.Core.Path.{◌≡◌, refl, sym, ◌∙◌}
use Prim.Native.Nat.{ℕ, suc, ◌+◌, ◌≤◌, ◌<◌, min}
use native.Mathlib.Omega.{arith}
use mathlib.Core.Bool.{Bool, true, false, cond, not, ◌&&◌, and-true}
use mathlib.Core.List.{[], ◌∷◌}
use lib.ListN.{length, get_or}
use lib.Dec.{eqb, leb, ltb}
use borrow.Author.Tests.{le-leb, lt-leb, lt-ltb, leb-true, not-false}
use Rattle.csl.specs.Text.{Text, every}
use Rattle.csl.specs.Number.{is_digit, is_number, zero_led}
use Rattle.texts.specs.Digits.{digit_run, number_at, settled, read, NumberFits}
use Rattle.texts.specs.Counting.{digit_within, Counting, Counted, one_more, counted, fits}
use Rattle.texts.specs.declared.digits.Numeral.{Numeral}
use Rattle.std.specs.Prelude.{Option, None}

run_digits : (s : Text) → every is_digit (digit_run s) ≡ true
unfolding every digit_run
run_digits [] = refl
run_digits (b ∷ s) = go (is_digit b) refl (run_digits s)
  where
    go : (p : Bool) → is_digit b ≡ p → every is_digit (digit_run s) ≡ true → every is_digit (cond p (b ∷ digit_run s) []) ≡ true
    go true e ih = rw (e, ih)
    go false e ih = refl

-- a 0 leads another digit
run_led : (s : Text) → zero_led (digit_run s) ≡ (ltb 1 (length (digit_run s)) && eqb (get_or s 0 0) 48)
unfolding digit_run zero_led
run_led [] = refl
run_led (b ∷ s) = go (is_digit b) (digit_run s)
  where
    go : (p : Bool) (d : Text) → zero_led (cond p (b ∷ d) []) ≡ (ltb 1 (length (cond p (b ∷ d) [])) && eqb b 48)
    go true [] = refl
    go true (a ∷ d) = rw (lt-ltb 1 (suc (suc (length d))) (omega arith))
    go false d = refl

-- no more digits than a number may have
settled_is : {s : Text} {v n : ℕ} (most : ℕ) → Counted s v n → n ≤ most → settled s v n ≡ number_at most s
unfolding number_at is_number
settled_is {s} most c h =
    let l : length (digit_run s) ≤ most = omega (arith, c.length_is) in
    rw (c.length_is, c.value_is, run_digits s, le-leb (length (digit_run s)) most l, run_led s, and-true)

settled_fits : (s : Text) (v n : ℕ) → v < 10000000000 → n ≤ length s → NumberFits (length s) (settled s v n)
settled_fits s v n f h = go (leb 1 n) (not (ltb 1 n && eqb (get_or s 0 0) 48)) refl
  where
    go : (p q : Bool) → leb 1 n ≡ p → NumberFits (length s) (cond (p && q) (read v n) None)
    go true true e = (f, leb-true 1 n e, h)
    go true false e = omega arith
    go false q e = omega arith

module _ {s : Text} {v n : ℕ} (most : ℕ) (c : Counting s v n) where
  -- no digit follows
  pub number_ends : {r : Option Numeral} → is_digit (get_or s n 0) ≡ false → n ≤ length s → n ≤ most → most ≤ 10 → r ≡ settled s v n
      → (r ≡ number_at most s) × NumberFits (length s) r
  number_ends h l k m e =
      (e ∙ settled_is most (counted c h) k, rw e (settled_fits s v n (fits c 10 (omega arith)) l))

  -- a digit too many follows
  pub number_long : is_digit (get_or s n 0) ≡ true → min (length s) most ≤ n → None ≡ number_at most s
  unfolding number_at is_number
  number_long h k =
      let m : most ≤ n = omega (arith, digit_within s n h) in
      let l : n + 1 ≤ length (digit_run s) = omega (arith, (one_more c h).length_is) in
      rw (run_digits s, le-leb 1 (length (digit_run s)) (omega arith), lt-leb (length (digit_run s)) most (omega arith))

-- a test on an answer that is known
pub held : {r p : Bool} → r ≡ p → not r ≡ false → p ≡ true
held e h = sym e ∙ not-false _ h
