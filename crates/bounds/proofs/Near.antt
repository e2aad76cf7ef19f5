-- How far the rounded step values of a phase lie below the exact ones: at most what they lie below them at step 0, and a unit more for
-- each step. So what they leave of 1, less that, lies below what the exact ones leave. Assumes nothing.
use Rattle.std.specs.Prelude.{Bool, true, false}
use Prim.Native.Nat.{ℕ, zero, suc, ◌+◌, ◌*◌, ◌-◌, ◌/◌, ◌≤◌, ◌<◌}
use Rattle.std.proofs.Common.{arith, mul_comm, add-suc}
use Rattle.std.proofs.Math.Nat.{mul-sub, add-zero}
use Rattle.numbers.specs.Hint.{le_times, div_high}
use Rattle.csl.specs.Chain.{Chain, top_rate}
use Rattle.csl.specs.Phase.{Phase, moved, divisor, stepped, step_top}
use Rattle.bounds.specs.Unit.{one}
use Rattle.bounds.specs.Upper.{remaining}
use Rattle.bounds.specs.StepValues.{settled, Runs}
use Rattle.bounds.specs.Moved.{moved_shift}
use Rattle.bounds.specs.Rounded.{running}

-- a step loses less than 1 when it is divided, and nothing where a value is held
settled_near : (o z : Bool) (u y q d e before : ℕ) → 0 < q → one * y ≤ d * u + e * d * q
    → one * stepped false o z before (d * q) y ≤ (settled o z (u / q) + suc e) * (d * q)
settled_near true z u y q d e before p h = omega arith
settled_near false true u y q d e before p h = omega arith
settled_near false false u y q d e before p h = omega (arith, le_times d (div_high u p), h)

-- what a value leaves of 1, over variables: of x / d
remaining_below : (v e k d x : ℕ) → one * x ≤ (v + (e + k)) * d → remaining e k v * d ≤ one * (d - x)
remaining_below v e k d x h = rw (mul_comm (remaining e k v) d, mul-sub) (omega arith)

module _ (c : Chain) (moving : 0 < top_rate c) {ph : Phase} {e : ℕ} {val : ℕ → ℕ → ℕ} (r : Runs c ph e val) where
  pub values_near : (k s : ℕ) → s < c.states → one * step_top c ph k s ≤ (val k s + (e + k)) * divisor c ph.whole k
  unfolding divisor step_top
  values_near zero s l = rw add-zero (r.near s l)
  values_near (suc k) s l =
      rw (r.next k s l, running c moving, add-suc)
      (settled_near (ph.one s) (ph.nil s) (moved c (val k) s) (moved c (step_top c ph k) s) (top_rate c) (divisor c ph.whole k) (e + k)
      (step_top c ph k s) moving
      (moved_shift c (step_top c ph k) (val k) one (divisor c ph.whole k) ((e + k) * divisor c ph.whole k) s
      (λ t m. omega (arith, values_near k t m)) l))

  -- what they leave of 1 is a lower value of what the exact ones leave
  pub left_below : (k s : ℕ) → s < c.states
      → remaining e k (val k s) * divisor c ph.whole k ≤ one * (divisor c ph.whole k - step_top c ph k s)
  left_below k s l = remaining_below (val k s) e k (divisor c ph.whole k) (step_top c ph k s) (values_near k s l)
