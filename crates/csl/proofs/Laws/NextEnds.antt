-- The two ends of the next move keep every rule of ends. Assumes nothing.
use Rattle.std.specs.Prelude.{◌≡◌, refl, ℕ}
use Rattle.std.proofs.Common.{sym, arith}
use Rattle.csl.specs.Formula.{next_of}
use Rattle.csl.specs.Fraction.{Fraction, IsFraction}
use Rattle.csl.specs.Chain.{Chain}
use Rattle.csl.specs.Verdicts.{Verdict, least, most}
use Rattle.csl.specs.Next.{next_fraction, next_lower, next_upper}
use Rattle.csl.specs.Ends.{EndsAt}
use Rattle.csl.proofs.Laws.Verdicts.{decided_same}
use Rattle.csl.proofs.Laws.Next.{next_is, next_le, next_same, RoundedDown, RoundedUp, round_down_lem, round_up_lem, down_range, up_range, rounded_apart}

-- what is rounded up is as near to a fraction with the same parts
up_of_same : (x y : Fraction) (u : ℕ) → (x.top ≡ y.top) × (x.bottom ≡ y.bottom) → RoundedUp x u → RoundedUp y u
up_of_same x y u e k = record { side = rw (← e.0, ← e.1) k.side; near = rw (← e.0, ← e.1) k.near }

module _ (c : Chain) (v : ℕ → Verdict) (s : ℕ) where
  abbrev low : Fraction
  low = next_fraction c (least v) s

  abbrev high : Fraction
  high = next_fraction c (most v) s

  pub ends_next : EndsAt c (next_of v) s (next_lower c v s) (next_upper c v s)
  ends_next =
      let i : IsFraction low = next_is c (least v) s in
      let j : IsFraction high = next_is c (most v) s in
      let d : RoundedDown low (next_lower c v s) = round_down_lem low i in
      let u : RoundedUp high (next_upper c v s) = round_up_lem high j in
      record {
        lower_side = d.side;
        lower_near = omega (arith, d.near);
        upper_side = u.side;
        upper_near = omega (arith, u.near);
        width = λ h.
            rounded_apart low _ _ d (up_of_same high low _ (next_same c (most v) (least v) s (λ t m. sym (decided_same (v t) (h t m)))) u);
        lower_range = down_range low _ i (next_le c (least v) s) d;
        upper_range = up_range high _ j (next_le c (most v) s) u;
        points = record { lower_is = refl; upper_is = refl };
      }
