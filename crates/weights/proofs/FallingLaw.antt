-- The weights below the middle: each turn of the loop may work out the one before. Assumes nothing.
use mathlib.Core.Path.{◌≡◌, refl, sym, ◌∙◌}
use mathlib.Core.List.{List}
use mathlib.Core.Logic.{⊎_elim}
use Prim.Native.Nat.{ℕ, suc, ◌+◌, ◌*◌, ◌-◌, ◌/◌, ◌≤◌, ◌<◌}
use native.Mathlib.Omega.{arith}
use native.Mathlib.Nat.{eq-or-lt_of_le, sub_self}
use lib.ListN.{set, length-set}
use lib.Seq.{get_or-set_same, get_or-set_other}
use borrow.Author.Tests.{lt-ltb, le-ltb}
use Rattle.numbers.specs.Hint.{le_times}
use Rattle.numbers.specs.Filled.{at}
use Rattle.bounds.specs.Ladder.{ladder}
use Rattle.bounds.specs.Weight.{peak, down, low, low_most}
use Rattle.bounds.proofs.Ends.{low_peak}
use Rattle.weights.specs.Asked.{Half, Fall}
use Rattle.weights.proofs.Span.{Span, span_more, span_done}

-- through the middle, the weight is the way down's
low_down : (a b m k : ℕ) → k ≤ m → low a b m k ≡ down a b m (m - k)
unfolding low ladder
low_down a b m k h =
    ⊎_elim
    (λ e. rw (e, le-ltb m m (omega arith), sub_self) refl)
    (λ l. rw (lt-ltb k m l) refl)
    (eq-or-lt_of_le h)

-- a weight before the middle, from the one after
pub low_before : (a b m i : ℕ) → suc i ≤ m → low a b m i ≡ low a b m (suc i) * (suc i * b) / a
unfolding ladder
low_before a b m i h =
    let e : m - i ≡ suc (m - suc i) = omega arith in
    let f : m - (m - suc i) ≡ suc i = omega arith in
    rw (low_down a b m i (omega arith), low_down a b m (suc i) h, e, f) refl

-- the largest weight stands
pub start : {e : List ℕ} {p m a b : ℕ} → Half e p m a b → Span (low a b m) p e (set e (p + m) peak) m (m + 1)
start {e} {p} {m} {a} {b} h =
    record {
      same = length-set e (p + m) peak;
      filled = λ k i u. let y : k ≡ m = omega arith in rw y (get_or-set_same e (p + m) peak 0 h.room ∙ sym (low_peak a b m));
      before = λ k u. get_or-set_other e (p + m) k peak 0 (omega arith);
      after = λ k u. get_or-set_other e (p + m) k peak 0 (omega arith);
    }

module _ {e l : List ℕ} {p m a b k : ℕ} (asked : Half e p m a b) (v : Span (low a b m) p e l k (m + 1)) (within : k ≤ m) (h : 0 < k) where
  again : k - 1 + 1 ≡ k
  again = omega arith

  place : p + (k - 1) + 1 ≡ p + k
  place = omega arith

  pub may_call : Fall (at l (p + (k - 1) + 1)) (k - 1 + 1) a b
  may_call =
      rw (place, again, v.filled k (omega arith) (omega arith))
      (record {
        weight = low_most asked.middle k;
        some = asked.middle.some;
        load = asked.load;
        falls = omega (arith, le_times b within, asked.middle.reached);
      })

  pub turn : (r : ℕ) → r ≡ at l (p + (k - 1) + 1) * ((k - 1 + 1) * b) / a → Span (low a b m) p e (set l (p + (k - 1)) r) (k - 1) (m + 1)
  turn r x =
      let s : suc (k - 1) ≡ k = omega arith in
      span_more r (rw (sym s) at v) (omega arith) (omega (arith, v.same, asked.room))
      (rw (place, again) at x ∙ rw (v.filled k (omega arith) (omega arith), low_before a b m (k - 1) (omega arith), s) refl)

pub ruleset falling_laws = (start, may_call, turn, span_done)
