-- The weights above the middle: each turn of the loop may work out the next. Assumes nothing.
use mathlib.Core.Path.{◌≡◌, refl, ◌∙◌}
use mathlib.Core.List.{List}
use Prim.Native.Nat.{ℕ, ◌+◌, ◌*◌, ◌/◌, ◌≤◌, ◌<◌}
use native.Mathlib.Omega.{arith}
use native.Mathlib.Numerals.{add-one}
use native.Mathlib.Numerals.{add-one}
use lib.ListN.{set}
use Rattle.numbers.specs.Hint.{mul_bound, le_times}
use Rattle.numbers.specs.Filled.{at, Filled, filled_more, filled_done}
use Rattle.bounds.specs.Weight.{low, low_most}
use Rattle.bounds.proofs.Width.{low_next}
use Rattle.weights.specs.Asked.{Rest, Rise}

-- the weights through the middle stand
pub start : {e : List ℕ} {p m d a b : ℕ} → Rest e p m d a b → Filled (low a b m) p (m + 1) e e
start h = record { same = refl; filled = h.stand; before = λ k u. refl; after = λ k u. refl }

-- a weight after the middle, from the one before
next : (a b m k : ℕ) → m ≤ k → low a b m (k + 1) ≡ low a b m k * a / ((k + 1) * b)
next a b m k h = rw add-one (low_next a b m k h)

module _ {e l : List ℕ} {p m d a b k : ℕ} (asked : Rest e p m d a b) (v : Filled (low a b m) p (k + 1) e l) (past : m ≤ k) (h : k < d) where
  pub may_call : Rise (at l (p + k)) (k + 1) a b
  may_call =
      let few : k + 1 ≤ 1024 = omega (arith, asked.limit) in
      rw (v.filled k (omega arith))
      (record {
        weight = low_most asked.half.middle k;
        some = asked.half.middle.some;
        load = asked.half.load;
        divisor = omega (arith, mul_bound few asked.half.small);
        falls = omega (arith, asked.half.middle.last, le_times b past);
      })

  pub turn : (r : ℕ) → r ≡ at l (p + k) * a / ((k + 1) * b) → Filled (low a b m) p (k + 1 + 1) e (set l (p + k + 1) r)
  turn r x =
      let place : p + k + 1 ≡ p + (k + 1) = omega arith in
      rw place
      (filled_more r v (omega (arith, v.same, asked.long)) (x ∙ rw (v.filled k (omega arith), next a b m k past) refl))

pub ruleset rising_laws = (start, may_call, turn, filled_done)
