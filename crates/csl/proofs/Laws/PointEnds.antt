-- Ends that keep the rules where nothing has to be summed: certain, impossible, load 0. Assumes nothing.
use Rattle.std.specs.Prelude.{◌≡◌, refl, ℕ, ◌*◌, ◌<◌}
use Rattle.std.proofs.Common.{arith}
use Rattle.std.proofs.Math.Nat.{eq_of_mul-eq-mul_right}
use Rattle.csl.specs.Limits.{billion}
use Rattle.csl.specs.Formula.{until_of}
use Rattle.csl.specs.Fraction.{Fraction, frac, Same}
use Rattle.csl.specs.Chain.{Chain, top_rate}
use Rattle.csl.specs.Phase.{bit}
use Rattle.csl.specs.Verdicts.{Verdict, No, Yes, as_no, as_yes, least, most}
use Rattle.csl.specs.Until.{low_quotient, high_quotient}
use Rattle.csl.specs.Ends.{EndsAt}
use Rattle.csl.proofs.Laws.Verdicts.{yes_or_no}
use Rattle.csl.proofs.Laws.Quotient.{until_is}
use Rattle.csl.proofs.Laws.PointQuotients.{until_one, until_nil, until_still}

module _ (c : Chain) (t : ℕ) (v w : ℕ → Verdict) (s : ℕ) (in_range : s < c.states) where
  pub ends_certain : w s ≡ Yes → EndsAt c (until_of t v w) s billion billion
  ends_certain e =
      let low : (n : ℕ) → (low_quotient c t v w s n).top ≡ (low_quotient c t v w s n).bottom = until_one c t (least v) (least w) s in_range (rw e) in
      let high : (n : ℕ) → (high_quotient c t v w s n).top ≡ (high_quotient c t v w s n).bottom = until_one c t (most v) (most w) s in_range (rw e) in
      record {
        lower_side = λ n d. omega (arith, low n);
        lower_near = λ n d. omega (arith, low n);
        upper_side = λ n d. omega (arith, high n);
        upper_near = λ n d. omega (arith, high n);
        width = λ h. omega arith;
        lower_range = omega arith;
        upper_range = omega arith;
        points = record {
          certain = λ h. (refl, refl);
          impossible = λ h k. yes_or_no e k;
          lower_exact = λ z n. omega (arith, low n);
          upper_exact = λ z n. omega (arith, high n);
        };
      }

  pub ends_impossible : v s ≡ No → w s ≡ No → EndsAt c (until_of t v w) s 0 0
  ends_impossible e f =
      let low : (n : ℕ) → (low_quotient c t v w s n).top ≡ 0 = until_nil c t (least v) (least w) s (rw e) (rw f) in
      let high : (n : ℕ) → (high_quotient c t v w s n).top ≡ 0 = until_nil c t (most v) (most w) s (rw e) (rw f) in
      record {
        lower_side = λ n d. omega (arith, low n);
        lower_near = λ n d. omega (arith, low n);
        upper_side = λ n d. omega (arith, high n);
        upper_near = λ n d. omega (arith, high n);
        width = λ h. omega arith;
        lower_range = omega arith;
        upper_range = omega arith;
        points = record {
          certain = λ h. yes_or_no h f;
          impossible = λ h k. (refl, refl);
          lower_exact = λ z n. omega (arith, low n);
          upper_exact = λ z n. omega (arith, high n);
        };
      }

  -- the ends with load 0, and that there are no others
  abbrev still_lower : ℕ
  still_lower = billion * bit (as_no (w s))

  abbrev still_upper : ℕ
  still_upper = billion * bit (as_yes (w s))

  pub still_lower_lem : (lower upper : ℕ) → top_rate c * t ≡ 0 → EndsAt c (until_of t v w) s lower upper → lower ≡ still_lower
  still_lower_lem lower upper z e =
      let x : Fraction = low_quotient c t v w s 0 in
      let low : Same x (frac (bit (as_no (w s))) 1) = until_still c t (least v) (least w) s z 0 in
      eq_of_mul-eq-mul_right x.bottom (until_is c t (least v) (least w) s 0) lower still_lower (omega (arith, low, e.points.lower_exact z 0))

  pub still_upper_lem : (lower upper : ℕ) → top_rate c * t ≡ 0 → EndsAt c (until_of t v w) s lower upper → upper ≡ still_upper
  still_upper_lem lower upper z e =
      let x : Fraction = high_quotient c t v w s 0 in
      let high : Same x (frac (bit (as_yes (w s))) 1) = until_still c t (most v) (most w) s z 0 in
      eq_of_mul-eq-mul_right x.bottom (until_is c t (most v) (most w) s 0) upper still_upper (omega (arith, high, e.points.upper_exact z 0))
