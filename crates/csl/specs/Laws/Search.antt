-- The states that lead to a second operand in so many moves. Assumes nothing.
use Rattle.std.specs.Prelude.{◌≡◌, Bool, false, ◌&&◌, ◌||◌}
use Rattle.std.proofs.Math.Bool.{true}
use Prim.Native.Nat.{ℕ, zero, suc, ◌<◌}
use Rattle.std.proofs.Math.Dec.{ltb}
use Rattle.csl.specs.Chain.{Chain}

-- p holds of some number below n
unfoldable pub any_below : (ℕ → Bool) → ℕ → Bool
any_below p zero = false
any_below p (suc n) = any_below p n || p n

pub record SomeBelow (p : ℕ → Bool) (n : ℕ) : Type 0 where
  pub place : ℕ
  pub under : place < n
  pub holds : p place ≡ true

-- the states of the second operand, and those of the first from which a move enters p
unfoldable pub grown : Chain → (x y : ℕ → Bool) → (ℕ → Bool) → ℕ → Bool
grown c x y p s = y s || x s && any_below (λ t. ltb 0 (c.rate s t) && p t) c.states

-- the states that lead to one of the second operand in at most k moves
unfoldable pub leads_in : Chain → (x y : ℕ → Bool) → ℕ → ℕ → Bool
leads_in c x y zero s = y s
leads_in c x y (suc k) s = grown c x y (leads_in c x y k) s
