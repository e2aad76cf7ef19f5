-- The two ends of a phase of a chain at one state, from one run of lower values that are known up to an error at step 0, for a load a / b
-- with its greatest weight at step a / b, at the depth 2 × (a / b rounded up) + 40: the quotients from there on lie between them, and
-- they are at most 2 × D and the error apart. Assumes nothing.
use Rattle.std.specs.Prelude.{◌≡◌, ℕ, ◌+◌, ◌*◌, ◌-◌, ◌/◌, ◌≤◌, ◌<◌}
use Rattle.std.proofs.Common.{arith, le_of_mul-le-mul_right}
use Rattle.numbers.specs.Hint.{le_times, div_low, div_high}
use Rattle.csl.specs.Fraction.{Fraction, frac, Below, billionths}
use Rattle.csl.specs.Chain.{Chain, top_rate}
use Rattle.csl.specs.Phase.{Phase, divisor, step_top, step_value, quotient}
use Rattle.csl.specs.Laws.Steps.{Starts}
use Rattle.csl.proofs.Laws.Steps.{step_le}
use Rattle.csl.proofs.Laws.Left.{left_of, left_above}
use Rattle.bounds.specs.Weight.{Middle}
use Rattle.bounds.specs.Exact.{power}
use Rattle.bounds.specs.Unit.{one}
use Rattle.bounds.specs.Ends.{LowerValues}
use Rattle.bounds.specs.Upper.{remaining, left_end}
use Rattle.bounds.proofs.Upper.{left_lower}
use Rattle.bounds.specs.Width.{most_depth}
use Rattle.bounds.proofs.Width.{width}
use Rattle.bounds.specs.StepValues.{Runs}
use Rattle.bounds.specs.Rounded.{divisor_power, values_below}
use Rattle.bounds.proofs.Near.{left_below}
use Rattle.bounds.proofs.Quotient.{end_below}
use Rattle.bounds.specs.PhaseEnd.{PhaseEnds, phase_depth, phase_lower, phase_upper, reach}

further_below : (x y : ℕ) (z : Fraction) → x ≤ y → Below (billionths y) z → Below (billionths x) z
further_below x y z h k = omega (arith, le_times z.bottom h, k)

module _ (a b : ℕ) (load : 0 < a) (unit-some : 0 < b) where
  middle : Middle a b (a / b)
  middle = record { some = load; unit = unit-some; reached = div_low a b; last = omega (arith, div_high a unit-some) }

  reach_halves : 2 * a ≤ reach a b * b
  reach_halves = omega (arith, div_high (a + (b - 1)) unit-some)

  pub reach_middle : a / b ≤ reach a b
  reach_middle = le_of_mul-le-mul_right {k = b} (omega (arith, div_low a b, reach_halves)) unit-some

  -- the end of lower values of fractions x k / y k
  from_depth : (q f : ℕ) (v x y : ℕ → ℕ) → 0 < q → 0 < f → ((k : ℕ) → y k ≡ power q k * f) → ((k : ℕ) → v k * y k ≤ one * x k)
      → (n : ℕ) → phase_depth a b ≤ n → Below (billionths (phase_lower a b v)) (quotient (frac a b) (λ k. frac (x k) (y k)) n)
  from_depth q f v x y rate some powers h n l =
      let p : LowerValues a b q f (a / b) (phase_depth a b) v x
      = record {
        middle = middle;
        deep = omega (arith, reach_middle);
        halves = omega (arith, reach_halves);
        rate = rate;
        values = λ k i. rw (← powers k) (h k);
      } in
      let e : phase_depth a b + (n - phase_depth a b) ≡ n = omega arith in
      rw e at (end_below y powers some p (n - phase_depth a b))

  module _ (c : Chain) (ph : Phase) (moving : 0 < top_rate c) (some : 0 < ph.whole) (starts : Starts c ph) {e : ℕ} {val : ℕ → ℕ → ℕ}
      (r : Runs c ph e val) (s : ℕ) (in_range : s < c.states) where
    lower_below : (n : ℕ) → phase_depth a b ≤ n
        → Below (billionths (phase_lower a b (λ k. val k s))) (quotient (frac a b) (step_value c ph s) n)
    lower_below =
        from_depth (top_rate c) ph.whole (λ k. val k s) (λ k. step_top c ph k s) (divisor c ph.whole) moving some
        (divisor_power c moving ph.whole) (λ k. values_below c moving r k s in_range)

    left_of_one : (n : ℕ) → phase_depth a b ≤ n
        → Below (billionths (left_end a b (a / b) (phase_depth a b) e (λ k. val k s))) (quotient (frac a b) (left_of (step_value c ph s)) n)
    left_of_one n h =
        further_below (left_end a b (a / b) (phase_depth a b) e (λ k. val k s)) (phase_lower a b (λ k. remaining e k (val k s)))
        (quotient (frac a b) (left_of (step_value c ph s)) n)
        (left_lower a b (a / b) (phase_depth a b) e (λ k. val k s) (omega (arith, reach_middle)))
        (from_depth (top_rate c) ph.whole (λ k. remaining e k (val k s)) (λ k. divisor c ph.whole k - step_top c ph k s)
        (divisor c ph.whole) moving some (divisor_power c moving ph.whole) (λ k. left_below c moving r k s in_range) n h)

    pub phase_ends : phase_depth a b ≤ most_depth
        → PhaseEnds c ph a b e s (phase_lower a b (λ k. val k s)) (phase_upper a b e (λ k. val k s))
    phase_ends small =
        record {
          below = lower_below;
          above = λ n h.
              left_above (frac a b) (step_value c ph s) (λ k. step_le c ph starts k s in_range) n
              (left_end a b (a / b) (phase_depth a b) e (λ k. val k s)) (phase_upper a b e (λ k. val k s)) (omega arith) (left_of_one n h);
          near = width e (λ k. val k s) (record { middle = middle; early = reach_middle; halves = omega (arith, reach_halves); small = small });
        }
