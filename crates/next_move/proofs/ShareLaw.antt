-- The share of a rate. Assumes nothing.
use mathlib.Core.Path.{◌≡◌}
use mathlib.Core.Bool.{Bool, true, false}
use Prim.Native.Nat.{ℕ, ◌*◌}
use native.Mathlib.Omega.{arith}
use Rattle.csl.specs.Phase.{bit}

pub share_held : (rate : ℕ) (x y : Bool) → x ≡ y → x ≡ true → rate ≡ rate * bit y
share_held rate x y e h = rw (← e, h) (omega arith)

pub share_none : (rate : ℕ) (x y : Bool) → x ≡ y → x ≡ false → 0 ≡ rate * bit y
share_none rate x y e h = rw (← e, h) (omega arith)

pub ruleset share_laws = (share_held, share_none)
