-- Until between two times: ends that keep the rules where nothing has to be summed, and that with the first time 0 the rules for ends are
-- until's. Assumes nothing.
use Rattle.std.specs.Prelude.{◌≡◌, refl, Bool, true, false, cond, ◌&&◌, ℕ, suc, ◌*◌, ◌-◌, ◌<◌}
use Rattle.std.proofs.Common.{ap, arith}
use Rattle.std.proofs.Math.Nat.{eq_of_mul-eq-mul_right}
use Rattle.csl.specs.Limits.{billion}
use Rattle.csl.specs.Formula.{Formula, chance, until, between, until_of, between_of, Comparison}
use Rattle.csl.specs.Fraction.{Fraction, frac, Same}
use Rattle.csl.specs.Chain.{Chain, top_rate, load}
use Rattle.csl.specs.Phase.{bit, divisor, step_top, step_value}
use Rattle.csl.specs.Verdicts.{Verdict, No, as_no, as_yes, least, most}
use Rattle.csl.specs.Between.{later_quotient, earlier_phase, between_quotient}
use Rattle.csl.specs.Ends.{EndsAt}
use Rattle.csl.specs.Report.{Reported}
use Rattle.csl.proofs.Laws.Verdicts.{decided_same}
use Rattle.csl.proofs.Laws.Fraction.{same_trans}
use Rattle.csl.proofs.Laws.Quotient.{bit_le, until_is}
use Rattle.csl.proofs.Laws.Point.{step_nil, quotient_nil, quotient_first}
use Rattle.csl.proofs.Laws.PointQuotients.{until_still}
use Rattle.csl.proofs.Laws.Between.{until_bottoms, between_is}

-- where the first operand fails the quotients are 0
pub between_nil : (c : Chain) (t u : ℕ) (a b : ℕ → Bool) (s m n : ℕ) → a s ≡ false → (between_quotient c t u a b s m n).top ≡ 0
between_nil c t u a b s m n e =
    quotient_nil (load c t) (step_value c (earlier_phase c t u a b n) s) (step_nil c (earlier_phase c t u a b n) s refl (rw e refl) (rw e refl)) m

-- with q = 0 they are 1 where both hold, else 0
started_still : (a b : Bool) (x : Fraction) (w : ℕ) → x.bottom ≡ w → Same x (frac (bit b) 1) → Same (frac (cond a x.top 0) w) (frac (bit (a && b)) 1)
started_still true b x w e h = omega (arith, h, ap (λ (d : ℕ). bit b * d) e)
started_still false b x w e h = omega arith

pub between_still : (c : Chain) (t u : ℕ) (a b : ℕ → Bool) (s m n : ℕ) → top_rate c ≡ 0
    → Same (between_quotient c t u a b s m n) (frac (bit (a s && b s)) 1)
unfolding load step_top divisor
between_still c t u a b s m n e =
    let z : (r : ℕ) → top_rate c * r ≡ 0 = λ r. rw e (omega arith) in
    same_trans (between_quotient c t u a b s m n) (step_value c (earlier_phase c t u a b n) s 0) (frac (bit (a s && b s)) 1)
    (until_is c (u - t) a b 0 n)
    (quotient_first (load c t) (step_value c (earlier_phase c t u a b n) s) (z t) m)
    (started_still (a s) (b s) (later_quotient c t u a b s n) (later_quotient c t u a b 0 n).bottom (until_bottoms c (u - t) a b s n)
    (until_still c (u - t) a b s (z (u - t)) n))

module _ (c : Chain) (t u : ℕ) (v w : ℕ → Verdict) (s : ℕ) (in_range : s < c.states) where
  pub between_impossible : v s ≡ No → EndsAt c (between_of (suc t) u v w) s 0 0
  between_impossible e =
      let low : (m n : ℕ) → (between_quotient c (suc t) u (least v) (least w) s m n).top ≡ 0
      = λ m n. between_nil c (suc t) u (least v) (least w) s m n (rw e) in
      let high : (m n : ℕ) → (between_quotient c (suc t) u (most v) (most w) s m n).top ≡ 0
      = λ m n. between_nil c (suc t) u (most v) (most w) s m n (rw e) in
      record {
        lower_side = λ m n i j. omega arith;
        lower_near = λ m n i j. omega (arith, low m n);
        upper_side = λ m n i j. omega (arith, high m n);
        upper_near = λ m n i j. omega arith;
        width = λ h. omega arith;
        lower_range = omega arith;
        upper_range = omega arith;
        points = record {
          impossible = λ h. (refl, refl);
          lower_exact = λ z m n. omega (arith, low m n);
          upper_exact = λ z m n. omega (arith, high m n);
        };
      }

  pub between_still_ends : top_rate c ≡ 0
      → EndsAt c (between_of (suc t) u v w) s (billion * bit (as_no (v s) && as_no (w s))) (billion * bit (as_yes (v s) && as_yes (w s)))
  between_still_ends e =
      let low : (m n : ℕ) → Same (between_quotient c (suc t) u (least v) (least w) s m n) (frac (bit (as_no (v s) && as_no (w s))) 1)
      = λ m n. between_still c (suc t) u (least v) (least w) s m n e in
      let high : (m n : ℕ) → Same (between_quotient c (suc t) u (most v) (most w) s m n) (frac (bit (as_yes (v s) && as_yes (w s))) 1)
      = λ m n. between_still c (suc t) u (most v) (most w) s m n e in
      record {
        lower_side = λ m n i j. omega (arith, low m n);
        lower_near = λ m n i j. omega (arith, low m n);
        upper_side = λ m n i j. omega (arith, high m n);
        upper_near = λ m n i j. omega (arith, high m n);
        width = λ h. rw (decided_same (v s) (h.0 s in_range), decided_same (w s) (h.1 s in_range)) (omega arith);
        lower_range = omega (arith, bit_le (as_no (v s) && as_no (w s)));
        upper_range = omega (arith, bit_le (as_yes (v s) && as_yes (w s)));
        points = record {
          impossible = λ h. (rw h, rw h);
          lower_exact = λ z m n. omega (arith, low m n);
          upper_exact = λ z m n. omega (arith, high m n);
        };
      }

  -- and there are no others
  pub still_pair_lower : (lower upper : ℕ) → top_rate c ≡ 0 → EndsAt c (between_of (suc t) u v w) s lower upper
      → lower ≡ billion * bit (as_no (v s) && as_no (w s))
  still_pair_lower lower upper z e =
      let x : Fraction = between_quotient c (suc t) u (least v) (least w) s 0 0 in
      let low : Same x (frac (bit (as_no (v s) && as_no (w s))) 1) = between_still c (suc t) u (least v) (least w) s 0 0 z in
      eq_of_mul-eq-mul_right x.bottom (between_is c (suc t) u (least v) (least w) s 0 0) lower (billion * bit (as_no (v s) && as_no (w s)))
      (omega (arith, low, e.points.lower_exact z 0 0))

  pub still_pair_upper : (lower upper : ℕ) → top_rate c ≡ 0 → EndsAt c (between_of (suc t) u v w) s lower upper
      → upper ≡ billion * bit (as_yes (v s) && as_yes (w s))
  still_pair_upper lower upper z e =
      let x : Fraction = between_quotient c (suc t) u (most v) (most w) s 0 0 in
      let high : Same x (frac (bit (as_yes (v s) && as_yes (w s))) 1) = between_still c (suc t) u (most v) (most w) s 0 0 z in
      eq_of_mul-eq-mul_right x.bottom (between_is c (suc t) u (most v) (most w) s 0 0) upper (billion * bit (as_yes (v s) && as_yes (w s)))
      (omega (arith, high, e.points.upper_exact z 0 0))

-- "With the first time 0 it is `U` with the second."
pub between_until : (c : Chain) (u : ℕ) (v w : ℕ → Verdict) (s lower upper : ℕ)
    → EndsAt c (between_of 0 u v w) s lower upper → EndsAt c (until_of u v w) s lower upper
between_until c u v w s lower upper e =
    record {
      lower_side = e.lower_side;
      lower_near = e.lower_near;
      upper_side = e.upper_side;
      upper_near = e.upper_near;
      width = e.width;
      lower_range = e.lower_range;
      upper_range = e.upper_range;
      points = e.points;
    }

pub until_between : (c : Chain) (u : ℕ) (v w : ℕ → Verdict) (s lower upper : ℕ)
    → EndsAt c (until_of u v w) s lower upper → EndsAt c (between_of 0 u v w) s lower upper
until_between c u v w s lower upper e =
    record {
      lower_side = e.lower_side;
      lower_near = e.lower_near;
      upper_side = e.upper_side;
      upper_near = e.upper_near;
      width = e.width;
      lower_range = e.lower_range;
      upper_range = e.upper_range;
      points = e.points;
    }

-- so every report of the one is one of the other
pub between_reports : (c : Chain) (r : Comparison) (p u : ℕ) (a b : Formula) (lower upper : ℕ → ℕ) (v : ℕ → Verdict)
    → Reported c (chance r p (between 0 u a b)) lower upper v → Reported c (chance r p (until u a b)) lower upper v
between_reports c r p u a b lower upper v k =
    record {
      first = k.first;
      first_backed = k.first_backed;
      second = k.second;
      second_backed = k.second_backed;
      keeps = record {
        ends = λ s l. between_until c u k.first k.second s (lower s) (upper s) (k.keeps.ends s l);
        verdict = k.keeps.verdict;
      };
    }

pub until_reports : (c : Chain) (r : Comparison) (p u : ℕ) (a b : Formula) (lower upper : ℕ → ℕ) (v : ℕ → Verdict)
    → Reported c (chance r p (until u a b)) lower upper v → Reported c (chance r p (between 0 u a b)) lower upper v
until_reports c r p u a b lower upper v k =
    record {
      first = k.first;
      first_backed = k.first_backed;
      second = k.second;
      second_backed = k.second_backed;
      keeps = record {
        ends = λ s l. until_between c u k.first k.second s (lower s) (upper s) (k.keeps.ends s l);
        verdict = k.keeps.verdict;
      };
    }
