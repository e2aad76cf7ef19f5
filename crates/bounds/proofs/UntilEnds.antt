-- The two ends of an until at a state, by cases as the code decides them, keep the rules for ends. Assumes nothing.
use Rattle.std.specs.Prelude.{◌≡◌, refl, Bool, true, false, cond, ℕ, ◌*◌, ◌≤◌, ◌<◌, eqb}
use Rattle.std.proofs.Common.{ap, sym, ◌∙◌, arith, eqb-true}
use Rattle.std.proofs.lemmas.Bool.{eqb-false}
use Rattle.csl.specs.Limits.{billion}
use Rattle.csl.specs.Formula.{until_of}
use Rattle.csl.specs.Fraction.{frac, Same}
use Rattle.csl.specs.Chain.{Chain, top_rate, depth}
use Rattle.csl.specs.Phase.{bit}
use Rattle.csl.specs.Verdicts.{Verdict, No, Yes, Undecided, as_no, as_yes, least, most}
use Rattle.csl.specs.Until.{until_phase, low_quotient, high_quotient}
use Rattle.csl.specs.Ends.{EndsAt}
use Rattle.csl.proofs.Laws.Verdicts.{decided_same}
use Rattle.csl.proofs.Laws.PointQuotients.{until_still}
use Rattle.csl.proofs.Laws.PointEnds.{ends_certain, ends_impossible}
use Rattle.bounds.specs.Width.{most_depth}
use Rattle.bounds.specs.StepValues.{Rounds, pointed}
use Rattle.bounds.specs.Reading.{summed_lower, summed_upper}
use Rattle.bounds.proofs.Reading.{summed_ends}
use Rattle.bounds.specs.UntilEnds.{place, until_lower, until_upper}

pub differ : {x y z : Verdict} → x ≡ y → x ≡ z → (place y ≡ place z → ⊥) → ⊥
differ h k n = n (ap place (sym h ∙ k))

bit_small : (b : Bool) → billion * bit b ≤ billion
bit_small true = omega arith
bit_small false = omega arith

module _ (c : Chain) (t s : ℕ) (v w : ℕ → Verdict) (in_range : s < c.states) where
  -- with load 0 the ends are 0 or 1, as the second operand is read
  ends_still : top_rate c * t ≡ 0 → EndsAt c (until_of t v w) s (billion * bit (as_no (w s))) (billion * bit (as_yes (w s)))
  ends_still z =
      let low : (n : ℕ) → Same (low_quotient c t v w s n) (frac (bit (as_no (w s))) 1) = until_still c t (least v) (least w) s z in
      let high : (n : ℕ) → Same (high_quotient c t v w s n) (frac (bit (as_yes (w s))) 1) = until_still c t (most v) (most w) s z in
      record {
        lower_side = λ n d. omega (arith, low n);
        lower_near = λ n d. omega (arith, low n);
        upper_side = λ n d. omega (arith, high n);
        upper_near = λ n d. omega (arith, high n);
        width = λ h. omega (arith, ap bit (decided_same (w s) (h.1 s in_range)));
        lower_range = bit_small (as_no (w s));
        upper_range = bit_small (as_yes (w s));
        points = record {
          certain = λ h. (rw h, rw h);
          impossible = λ h k. (rw k, rw k);
          lower_exact = λ y n. omega (arith, low n);
          upper_exact = λ y n. omega (arith, high n);
        };
      }

  -- where the operands' verdicts alone do not settle the ends, others do
  point_ends : (x y : Verdict) (lower upper : ℕ) → v s ≡ x → w s ≡ y
      → ((w s ≡ Yes → ⊥) → (v s ≡ No → w s ≡ No → ⊥) → EndsAt c (until_of t v w) s lower upper)
      → EndsAt c (until_of t v w) s (pointed x y lower) (pointed x y upper)
  point_ends x Yes lower upper e f h = ends_certain c t v w s in_range f
  point_ends No No lower upper e f h = ends_impossible c t v w s in_range e f
  point_ends Yes No lower upper e f h = h (λ i. differ i f λ z. omega arith) (λ i j. differ i e λ z. omega arith)
  point_ends Undecided No lower upper e f h = h (λ i. differ i f λ z. omega arith) (λ i j. differ i e λ z. omega arith)
  point_ends x Undecided lower upper e f h = h (λ i. differ i f λ z. omega arith) (λ i j. differ j f λ z. omega arith)

  module _ (val high : ℕ → ℕ → ℕ) (small : depth c t ≤ most_depth) (r : 0 < top_rate c * t → Rounds c (until_phase (least v) (least w)) val)
      (r' : 0 < top_rate c * t → Rounds c (until_phase (most v) (most w)) high) where
    -- with load 0 the exact values, else the sums
    still_ends : (z : Bool) → eqb (top_rate c * t) 0 ≡ z → (w s ≡ Yes → ⊥) → (v s ≡ No → w s ≡ No → ⊥)
        → EndsAt c (until_of t v w) s (cond z (billion * bit (as_no (w s))) (summed_lower c t val s))
        (cond z (billion * bit (as_yes (w s))) (summed_upper c t high s))
    still_ends true e i j = ends_still (eqb-true _ _ e)
    still_ends false e i j =
        let n : top_rate c * t ≡ 0 → ⊥ = eqb-false _ _ e in
        let p : 0 < top_rate c * t = omega arith in
        summed_ends c t s in_range small p v w val high (r p) (r' p) i j

    -- the ends keep every rule
    pub until_ends : EndsAt c (until_of t v w) s (until_lower c t v w val s) (until_upper c t v w high s)
    until_ends = point_ends (v s) (w s) _ _ refl refl (still_ends (eqb (top_rate c * t) 0) refl)
