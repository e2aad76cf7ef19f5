-- A phase that starts a little higher: what its start lies above another's, its quotients lie above the other's at most. Nothing here rests on how
-- quotients move with the depth. Assumes nothing.
use Rattle.std.specs.Prelude.{Bool, true, false}
use Prim.Native.Nat.{ℕ, zero, suc, ◌+◌, ◌*◌, ◌≤◌, ◌<◌}
use native.Mathlib.Omega.{arith}
use Rattle.std.proofs.Common.{mul-pos, le_of_mul-le-mul_right}
use Rattle.numbers.specs.Hint.{le_times, eq_times}
use Rattle.csl.specs.Limits.{billion}
use Rattle.csl.specs.Fraction.{Fraction, frac, Below, Same, plus, billionths}
use Rattle.csl.specs.Chain.{Chain, top_rate}
use Rattle.csl.specs.Phase.{Phase, moved, divisor, stepped, step_top, step_value, quotient}
use Rattle.bounds.specs.Exact.{power, weighted_sum, weighted_shift}
use Rattle.bounds.specs.Moved.{moved_shift}
use Rattle.bounds.specs.Rounded.{running, divisor_power}
use Rattle.bounds.proofs.Quotient.{quotient_exact, powers_some}
use Rattle.bounds.specs.Shifted.{StartsNear}

-- one step, moved or held at 0
stepped_shift : (z : Bool) (before before' u u' x y p r e : ℕ) → p * x ≤ r * y + e
    → p * stepped false false z before u x ≤ r * stepped false false z before' u' y + e
stepped_shift true before before' u u' x y p r e h = omega arith
stepped_shift false before before' u u' x y p r e h = h

-- fractions x / (r * w) and y / (r * v), over variables
shift_same : (a b : Fraction) (x y r w v e : ℕ) → 0 < r → 0 < w → 0 < v → Same a (frac x (r * w)) → Same b (frac y (r * v))
    → v * billion * x ≤ w * billion * y + e * w * v * r → Below a (plus b (billionths e))
shift_same a b x y r w v e p q o h k i =
    le_of_mul-le-mul_right {k = r * w * v}
    (omega (arith, le_times (a.bottom * b.bottom) i, eq_times (v * b.bottom) h, eq_times (w * a.bottom) k))
    (mul-pos (mul-pos p q) o)

module _ (c : Chain) (moving : 0 < top_rate c) {ph ph' : Phase} {e : ℕ} (h : StartsNear c ph ph' e) where
  steps_near : (k s : ℕ) → s < c.states
      → ph'.whole * billion * step_top c ph k s ≤ ph.whole * billion * step_top c ph' k s + e * ph.whole * ph'.whole * power (top_rate c) k
  unfolding step_top power
  steps_near zero s l = omega (arith, h.starts s l)
  steps_near (suc k) s l =
      rw (running c moving, h.ones s, h.ones' s, h.nils s l)
      (stepped_shift (ph'.nil s) (step_top c ph k s) (step_top c ph' k s) (divisor c ph.whole (suc k)) (divisor c ph'.whole (suc k))
      (moved c (step_top c ph k) s) (moved c (step_top c ph' k) s) (ph'.whole * billion) (ph.whole * billion)
      (e * ph.whole * ph'.whole * (power (top_rate c) k * top_rate c))
      (omega (
        arith,
        moved_shift c (step_top c ph k) (step_top c ph' k) (ph'.whole * billion) (ph.whole * billion) (e * ph.whole * ph'.whole * power (top_rate c) k)
            s (steps_near k) l,
      )))

  pub quotients_near : (a b : ℕ) → 0 < b → (s n : ℕ) → s < c.states
      → Below (quotient (frac a b) (step_value c ph s) n) (plus (quotient (frac a b) (step_value c ph' s) n) (billionths e))
  quotients_near a b some s n l =
      shift_same _ _ (weighted_sum a (b * top_rate c) (λ k. step_top c ph k s) n) (weighted_sum a (b * top_rate c) (λ k. step_top c ph' k s) n)
      (weighted_sum a (b * top_rate c) (power (top_rate c)) n) ph.whole ph'.whole e (powers_some a b (top_rate c) n some moving) h.some h.some'
      (quotient_exact a b (top_rate c) ph.whole some moving (λ k. step_top c ph k s) (divisor c ph.whole) (divisor_power c moving ph.whole) n)
      (quotient_exact a b (top_rate c) ph'.whole some moving (λ k. step_top c ph' k s) (divisor c ph'.whole) (divisor_power c moving ph'.whole) n)
      (weighted_shift a (b * top_rate c) (ph'.whole * billion) (ph.whole * billion) (e * ph.whole * ph'.whole) (λ k. step_top c ph k s)
      (λ k. step_top c ph' k s) (power (top_rate c)) (λ k. steps_near k s l) n)
