-- Until between two times: that its two phases fit together, and its quotients at pairs of depths, which are fractions from 0 to 1 and rise with
-- the reading. Nothing here rests on how quotients move with the depth. Assumes nothing.
use Rattle.std.specs.Prelude.{◌≡◌, refl, Bool, true, false, cond, not, ℕ, zero, suc, ◌*◌, ◌-◌, ◌≤◌, ◌<◌}
use Rattle.std.proofs.Common.{ap, arith}
use Rattle.csl.specs.Fraction.{Fraction, IsFraction, Same, frac, plus, times, sum_up}
use Rattle.csl.specs.Chain.{Chain, load}
use Rattle.csl.specs.Phase.{divisor, step_top, step_value, weight, quotient}
use Rattle.csl.specs.Verdicts.{Verdict, Reading, least, most}
use Rattle.csl.specs.Until.{until_phase, until_quotient}
use Rattle.csl.specs.Between.{later_quotient, earlier_phase, between_quotient}
use Rattle.csl.proofs.Laws.Fraction.{Under}
use Rattle.csl.specs.Laws.Steps.{Starts, PhaseUnder}
use Rattle.csl.proofs.Laws.Steps.{step_le, step_rises, divisor_some}
use Rattle.csl.proofs.Laws.Quotient.{quotient_is, quotient_le, quotient_rises, Implies, until_is, until_le, until_rises, as_no_least, as_yes_greatest}

-- values of one divisor have quotients of one divisor
bottoms_plus : (x y z w : Fraction) → x.bottom ≡ y.bottom → z.bottom ≡ w.bottom → (plus x z).bottom ≡ (plus y w).bottom
bottoms_plus x y z w h k = rw (h, k) refl

sum_bottoms : (f g : ℕ → Fraction) → ((k : ℕ) → (f k).bottom ≡ (g k).bottom) → (n : ℕ) → (sum_up f n).bottom ≡ (sum_up g n).bottom
unfolding sum_up
sum_bottoms f g h zero = h 0
sum_bottoms f g h (suc n) = bottoms_plus (sum_up f n) (sum_up g n) (f (suc n)) (g (suc n)) (sum_bottoms f g h n) (h (suc n))

quotient_bottoms : (l : Fraction) (v w : ℕ → Fraction) → ((k : ℕ) → (v k).bottom ≡ (w k).bottom) → (n : ℕ) → (quotient l v n).bottom ≡ (quotient l w n).bottom
unfolding quotient
quotient_bottoms l v w h n =
    ap (λ (b : ℕ). b * (sum_up (weight l) n).top)
    (sum_bottoms (λ k. times (weight l k) (v k)) (λ k. times (weight l k) (w k)) (λ k. ap (λ (b : ℕ). (weight l k).bottom * b) (h k)) n)

-- the divisor of an until's quotients is that of state 0
pub until_bottoms : (c : Chain) (t : ℕ) (a b : ℕ → Bool) (s n : ℕ) → (until_quotient c t a b s n).bottom ≡ (until_quotient c t a b 0 n).bottom
until_bottoms c t a b s n = quotient_bottoms (load c t) (step_value c (until_phase a b) s) (step_value c (until_phase a b) 0) (λ k. refl) n

started_from : (a : Bool) (x : Fraction) (w : ℕ) → x.bottom ≡ w → Same (frac (cond a x.top 0) w) (cond a x (frac 0 1))
started_from true x w e = ap (λ (b : ℕ). x.top * b) e
started_from false x w e = omega arith

started_le : (b : Bool) (x y : ℕ) → x ≤ y → cond b x 0 ≤ y
started_le true x y h = h
started_le false x y h = omega arith

started_rises : (a b : Bool) (x y : ℕ) → (a ≡ true → b ≡ true) → x ≤ y → cond a x 0 ≤ cond b y 0
started_rises true b x y h k = rw (h refl) k
started_rises false b x y h k = omega arith

fails_falls : (a b : Bool) → (a ≡ true → b ≡ true) → not b ≡ true → not a ≡ true
fails_falls true b h k = rw (h refl) at k
fails_falls false b h k = refl

module _ (c : Chain) (t u : ℕ) where
  -- the earlier phase starts "from the later one's quotient where the first operand holds and 0 elsewhere"
  pub earlier_start : (a b : ℕ → Bool) (s n : ℕ)
      → Same (step_value c (earlier_phase c t u a b n) s 0) (cond (a s) (later_quotient c t u a b s n) (frac 0 1))
  unfolding step_top divisor
  earlier_start a b s n = started_from (a s) (later_quotient c t u a b s n) _ (until_bottoms c (u - t) a b s n)

  pub earlier_starts : (a b : ℕ → Bool) (n : ℕ) → Starts c (earlier_phase c t u a b n)
  earlier_starts a b n s l = started_le (a s) _ _ (rw (← until_bottoms c (u - t) a b s n) (until_le c (u - t) a b s n l))

  pub between_is : (a b : ℕ → Bool) (s m n : ℕ) → IsFraction (between_quotient c t u a b s m n)
  unfolding load
  between_is a b s m n =
      quotient_is (load c t) (step_value c (earlier_phase c t u a b n) s) (omega arith)
      (λ k. divisor_some c (later_quotient c t u a b 0 n).bottom (until_is c (u - t) a b 0 n) k) m

  pub between_le : (a b : ℕ → Bool) (s m n : ℕ) → s < c.states → (between_quotient c t u a b s m n).top ≤ (between_quotient c t u a b s m n).bottom
  between_le a b s m n l =
      quotient_le (load c t) (step_value c (earlier_phase c t u a b n) s) (λ k. step_le c (earlier_phase c t u a b n) (earlier_starts a b n) k s l) m

  earlier_under : (a b a' b' : ℕ → Bool) → Implies c.states a a' → Implies c.states b b' → 0 < c.states → (n : ℕ)
      → PhaseUnder c (earlier_phase c t u a b n) (earlier_phase c t u a' b' n)
  earlier_under a b a' b' h k z n =
      record {
        wholes = (until_rises c (u - t) a b a' b' h k 0 n z).bottoms;
        starts = λ s l. started_rises (a s) (a' s) _ _ (h s l) (until_rises c (u - t) a b a' b' h k s n l).tops;
        ones = λ s l e. e;
        nils = λ s l. fails_falls (a s) (a' s) (h s l);
      }

  pub between_rises : (a b a' b' : ℕ → Bool) → Implies c.states a a' → Implies c.states b b' → (s m n : ℕ) → s < c.states
      → Under (between_quotient c t u a b s m n) (between_quotient c t u a' b' s m n)
  between_rises a b a' b' h k s m n l =
      let e : PhaseUnder c (earlier_phase c t u a b n) (earlier_phase c t u a' b' n) = earlier_under a b a' b' h k (omega arith) n in
      quotient_rises (load c t) (step_value c (earlier_phase c t u a b n) s) (step_value c (earlier_phase c t u a' b' n) s)
      (λ j. record {
        tops = step_rises c (earlier_phase c t u a b n) (earlier_phase c t u a' b' n) (earlier_starts a b n) e j s l;
        bottoms = ap (λ (w : ℕ). divisor c w j) e.wholes;
      })
      m

  -- undecided as no is the least reading, undecided as yes the greatest
  module _ (v w : ℕ → Verdict) (x y : ℕ → Bool) (h : Reading c.states v x) (k : Reading c.states w y) where
    pub between_low : (s m n : ℕ) → s < c.states → Under (between_quotient c t u (least v) (least w) s m n) (between_quotient c t u x y s m n)
    between_low =
        between_rises (least v) (least w) x y (λ i j. as_no_least (v i) (x i) (h i j)) (λ i j. as_no_least (w i) (y i) (k i j))

    pub between_high : (s m n : ℕ) → s < c.states → Under (between_quotient c t u x y s m n) (between_quotient c t u (most v) (most w) s m n)
    between_high =
        between_rises x y (most v) (most w) (λ i j. as_yes_greatest (v i) (x i) (h i j)) (λ i j. as_yes_greatest (w i) (y i) (k i j))
