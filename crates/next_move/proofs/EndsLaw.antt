-- All states' ends, row after row. Assumes nothing.
use mathlib.Core.Path.{◌≡◌, refl, sym, ◌∙◌}
use mathlib.Core.List.{List}
use Prim.Native.Nat.{ℕ, ◌+◌, ◌*◌, ◌≤◌, ◌<◌}
use native.Mathlib.Omega.{arith}
use native.Mathlib.Numerals.{add-one}
use lib.ListN.{length, set}
use Rattle.verdicts.specs.Paper.{interval}
use Rattle.verdicts.specs.declared.interval.Interval.{Interval}
use Rattle.rate_matrix.specs.Words.{at, row_of}
use Rattle.rate_matrix.specs.Sorted.{row_zero}
use Rattle.vectors.specs.Places.{EndsStored}
use Rattle.vectors.specs.Prepared.{Rates, rates_kept}
use Rattle.vectors.specs.Storing as storing
use Rattle.next_move.specs.Ends.{lower_at, upper_at, NextAsked, StateAsked}

pub record Inv (mv l₀ l operand : List ℕ) (n begin s : ℕ) : Type 0 where
  pub asked : NextAsked mv l₀ operand n
  pub begins : begin ≡ row_of mv (length mv) s
  pub ends : storing.Inv (lower_at mv l₀ operand n) (upper_at mv l₀ operand n) l₀ l n s

pub start : {mv l operand : List ℕ} {n : ℕ} → NextAsked mv l operand n → Inv mv l l operand n 0 0
start {mv} {l} {operand} {n} p =
    record {
      asked = p;
      begins = sym (row_zero mv (length mv));
      ends = storing.start (lower_at mv l operand n) (upper_at mv l operand n) l n (omega (arith, p.rates.long));
    }

module _ {mv l₀ l operand : List ℕ} {n begin s : ℕ} (v : Inv mv l₀ l operand n begin s) (h : s < n) where
  -- all but the ends is as it was
  kept : (k : ℕ) → 2 * n ≤ k → at l k ≡ at l₀ k
  kept k b = v.ends.done.else k (λ a c. absurd (omega (arith, v.ends.within))) (λ a c. absurd (omega (arith, v.ends.within)))

  rates : Rates mv l n v.asked.q
  rates = rates_kept v.asked.rates v.ends.done.same (λ k a b. kept k (omega arith))

  pub in_ends : 7 * n + s < length l
  in_ends = omega (arith, rates.long)

  pub may_state : StateAsked mv l operand n s begin (at l (7 * n + s))
  may_state =
      record {
        all = record {
          q = v.asked.q;
          rates = rates;
          slow = λ g b. rw (kept (8 * n + g) (omega arith)) (v.asked.slow g b);
          room = v.asked.room;
        };
        here = h;
        begins = v.begins;
        ends = rates.ends s h;
      }

  pub in_lower : s < length l
  in_lower = storing.in_lower v.ends h

  pub in_upper : (x : ℕ) → n + s < length (set l s x)
  in_upper x = storing.in_upper v.ends h x

  module _ (r : Interval) (e : r ≡ interval (lower_at mv l operand n s) (upper_at mv l operand n s)) where
    lower_is : r.lower ≡ lower_at mv l₀ operand n s
    lower_is = rw (e, kept (8 * n + s) (omega arith)) refl

    upper_is : r.upper ≡ upper_at mv l₀ operand n s
    upper_is = rw (e, kept (8 * n + s) (omega arith)) refl

    pub turn : (x y : ℕ) → x ≡ r.lower → y ≡ r.upper → Inv mv l₀ (set (set l s x) (n + s) y) operand n (at l (7 * n + s)) (s + 1)
    turn x y f g =
        record {
          asked = v.asked;
          begins = rw add-one (rates.ends s h);
          ends = storing.turn v.ends h x y (f ∙ lower_is) (g ∙ upper_is);
        }

pub finish : {mv l₀ l operand : List ℕ} {n begin s : ℕ} → Inv mv l₀ l operand n begin s → n ≤ s
    → EndsStored (lower_at mv l₀ operand n) (upper_at mv l₀ operand n) n l₀ l
finish v h = storing.finish v.ends h

pub finish_length : {mv l₀ l operand : List ℕ} {n begin s : ℕ} → Inv mv l₀ l operand n begin s → length l ≡ length l₀
finish_length v = v.ends.done.same

pub ruleset ends_laws = (start, in_ends, may_state, in_lower, in_upper, turn, finish, finish_length)
