-- Both ends of each state, stored one state after the other. Assumes nothing.
use Rattle.std.specs.Prelude.{◌≡◌, List, ℕ, ◌+◌, ◌*◌, ◌≤◌, ◌<◌, length, set}
use Rattle.std.proofs.Common.{ap, sym, ◌∙◌, arith, zero-add, length-set}
use Rattle.numbers.specs.Filled.{Twin, twin_none, twin_more, twin_done}
use Rattle.vectors.specs.Places.{at, EndsStored}

pub record Inv (lower upper : ℕ → ℕ) (l₀ l : List ℕ) (n s : ℕ) : Type 0 where
  pub room : 2 * n ≤ length l₀
  pub within : s ≤ n
  pub done : Twin lower upper 0 n s l₀ l

pub start : (lower upper : ℕ → ℕ) (l : List ℕ) (n : ℕ) → 2 * n ≤ length l → Inv lower upper l l n 0
start lower upper l n h = record { room = h; within = omega arith; done = twin_none lower upper 0 n l }

module _ {lower upper : ℕ → ℕ} {l₀ l : List ℕ} {n s : ℕ} (v : Inv lower upper l₀ l n s) (h : s < n) where
  pub in_lower : s < length l
  in_lower = omega (arith, v.done.same, v.room)

  pub in_upper : (x : ℕ) → n + s < length (set l s x)
  in_upper x = rw (length-set l s x) (omega (arith, v.done.same, v.room))

  -- the two ends that are not stored yet
  pub lower_was : at l s ≡ at l₀ s
  lower_was = v.done.else s (λ a b. absurd (omega arith)) (λ a b. absurd (omega arith))

  pub upper_was : at l (n + s) ≡ at l₀ (n + s)
  upper_was = v.done.else (n + s) (λ a b. absurd (omega arith)) (λ a b. absurd (omega arith))

  pub turn : (x y : ℕ) → x ≡ lower s → y ≡ upper s → Inv lower upper l₀ (set (set l s x) (n + s) y) n (s + 1)
  turn x y e f =
      record {
        room = v.room;
        within = omega arith;
        done = rw (zero-add s) at (twin_more x y v.done (omega arith) (omega (arith, v.done.same, v.room)) e f);
      }

pub finish : {lower upper : ℕ → ℕ} {l₀ l : List ℕ} {n s : ℕ} → Inv lower upper l₀ l n s → n ≤ s → EndsStored lower upper n l₀ l
finish {l = l} v h =
    let t = twin_done v.done v.within h in
    record {
      same = t.same;
      lowers = λ g b. ap (at l) (sym (zero-add g)) ∙ t.first g b;
      uppers = t.second;
      after = λ k b. t.else k (λ a c. absurd (omega arith)) (λ a c. absurd (omega arith));
    }

pub finish_length : {lower upper : ℕ → ℕ} {l₀ l : List ℕ} {n s : ℕ} → Inv lower upper l₀ l n s → length l ≡ length l₀
finish_length v = v.done.same

pub ruleset ends_laws = (start, in_lower, in_upper, turn, finish, finish_length)
