-- A verdict byte that is decided is 0 or 1, and 1 where the operand holds. Assumes nothing.
use mathlib.Core.Path.{◌≡◌, refl}
use mathlib.Core.Bool.{Bool, true, false, cond, false≢true}
use Prim.Native.Nat.{ℕ, ◌≤◌}
use native.Mathlib.Omega.{arith}
use lib.Dec.{eqb}
use borrow.Author.Tests.{eqb-true, eqb-false}
use Rattle.csl.specs.Verdicts.{No, Yes, Undecided, Decided, as_no, marked}
use Rattle.verdicts.specs.Byte.{verdict_at}

module _ (b : ℕ) where
  pub decided_bit : Decided (verdict_at b) → b ≤ 1
  decided_bit = go (eqb b 0) (eqb b 1) refl refl
    where
      go : (x y : Bool) → eqb b 0 ≡ x → eqb b 1 ≡ y → Decided (cond x No (cond y Yes Undecided)) → b ≤ 1
      go true y e f d = omega (arith, eqb-true b 0 e)
      go false true e f d = omega (arith, eqb-true b 1 f)
      go false false e f d = absurd d

  pub one_of_holds : as_no (verdict_at b) ≡ true → b ≡ 1
  one_of_holds = go (eqb b 0) (eqb b 1) refl
    where
      go : (x y : Bool) → eqb b 1 ≡ y → as_no (cond x No (cond y Yes Undecided)) ≡ true → b ≡ 1
      go true y e h = absurd (false≢true h)
      go false true e h = eqb-true b 1 e
      go false false e h = absurd (false≢true h)

  pub holds_of_one : b ≡ 1 → as_no (verdict_at b) ≡ true
  holds_of_one e = rw e refl

  pub bit_told : b ≤ 1 → marked (eqb b 1) ≡ verdict_at b
  bit_told h = go (eqb b 0) refl
    where
      go : (x : Bool) → eqb b 0 ≡ x → marked (eqb b 1) ≡ verdict_at b
      go true e = rw (eqb-true b 0 e) refl
      go false e = let n : b ≡ 0 → ⊥ = eqb-false b 0 e in let z : b ≡ 1 = omega arith in rw z refl
