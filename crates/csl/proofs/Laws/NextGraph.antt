-- The ends of a next move, rounded outwards, show what the moves say: the upper one is above 0 where it is possible, and the lower one is
-- 1,000,000,000 where it is certain. Assumes nothing.
use Rattle.std.specs.Prelude.{◌≡◌, refl, Bool, true, false, ℕ, ◌+◌, ◌≤◌, ◌<◌, ltb, eqb}
use Rattle.std.proofs.Common.{sym, arith, mul-le-mul_right, lt_of_mul-lt-mul_right, ltb-true, ltb-false, eqb-true}
use Rattle.std.proofs.lemmas.Bool.{eqb-false}
use Rattle.csl.specs.Limits.{billion}
use Rattle.csl.specs.Fraction.{Fraction, IsFraction}
use Rattle.csl.specs.Chain.{Chain}
use Rattle.csl.specs.Verdicts.{Verdict, marked, least, most}
use Rattle.csl.specs.Graph.{Enters, EntersOnly, Tells, AllDecided}
use Rattle.csl.specs.Next.{next_fraction, next_lower, next_upper}
use Rattle.csl.proofs.Laws.Verdicts.{decided_same}
use Rattle.csl.proofs.Laws.Next.{RoundedDown, RoundedUp, round_down_lem, round_up_lem, next_is, next_le, next_same, down_range}
use Rattle.csl.proofs.Laws.Graph.{next_some, next_entered, next_full, next_all}

-- rounded up it is above 0 exactly where it is
up_some : (x : Fraction) (u : ℕ) → IsFraction x → RoundedUp x u → 0 < u → 0 < x.top
up_some x u is r h = lt_of_mul-lt-mul_right billion (omega (arith, r.near, mul-le-mul_right x.bottom h))

some_up : (x : Fraction) (u : ℕ) → RoundedUp x u → 0 < x.top → 0 < u
some_up x u r h = lt_of_mul-lt-mul_right x.bottom (omega (arith, r.side, h))

-- rounded down it is 1,000,000,000 exactly where it is 1
down_full : (x : Fraction) → RoundedDown x billion → x.bottom ≤ x.top
down_full x r = omega (arith, r.side)

full_down : (x : Fraction) (d : ℕ) → x.top ≡ x.bottom → RoundedDown x d → billion ≤ d
full_down x d e r = let k : billion < d + 1 = lt_of_mul-lt-mul_right x.bottom (omega (arith, r.near, e)) in omega arith

module _ (c : Chain) (v : ℕ → Verdict) (s : ℕ) where
  pub upper_tells : AllDecided c v → Tells (marked (ltb 0 (next_upper c v s))) (Enters c (least v) s)
  upper_tells d = go (ltb 0 (next_upper c v s)) refl
    where
      same : ((next_fraction c (most v) s).top ≡ (next_fraction c (least v) s).top) × ((next_fraction c (most v) s).bottom ≡ (next_fraction c (least v) s).bottom)
      same = next_same c (most v) (least v) s (λ u l. sym (decided_same (v u) (d u l)))

      rounded : RoundedUp (next_fraction c (most v) s) (next_upper c v s)
      rounded = round_up_lem (next_fraction c (most v) s) (next_is c (most v) s)

      go : (b : Bool) → ltb 0 (next_upper c v s) ≡ b → Tells (marked b) (Enters c (least v) s)
      go true e =
          next_entered c (least v) s
          (omega (arith, same.0, up_some (next_fraction c (most v) s) (next_upper c v s) (next_is c (most v) s) rounded (ltb-true _ _ e)))
      go false e = λ h.
          let some : 0 < (next_fraction c (most v) s).top = omega (arith, same.0, next_some c (least v) s h) in
          omega (arith, some_up (next_fraction c (most v) s) (next_upper c v s) rounded some, ltb-false 0 (next_upper c v s) e)

  pub lower_tells : Tells (marked (eqb (next_lower c v s) billion)) (EntersOnly c (least v) s)
  lower_tells = go (eqb (next_lower c v s) billion) refl
    where
      x : Fraction
      x = next_fraction c (least v) s

      rounded : RoundedDown x (next_lower c v s)
      rounded = round_down_lem x (next_is c (least v) s)

      go : (b : Bool) → eqb (next_lower c v s) billion ≡ b → Tells (marked b) (EntersOnly c (least v) s)
      go true e = next_all c (least v) s (down_full x (rw (eqb-true (next_lower c v s) billion e) at rounded))
      go false e = λ h.
          let n : next_lower c v s ≡ billion → ⊥ = eqb-false _ _ e in
          n (omega (
            arith,
            full_down x (next_lower c v s) (next_full c (least v) s h) rounded,
            down_range x (next_lower c v s) (next_is c (least v) s) (next_le c (least v) s) rounded,
          ))
