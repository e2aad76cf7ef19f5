-- The lower end of a phase, from lower weights and lower step values: it lies below the quotient at every depth from d on. Nothing here
-- rests on how the values move from step to step. Assumes nothing.
use Rattle.std.specs.Prelude.{◌≡◌, refl}
use Rattle.std.proofs.Common.{ap, mul-pos, le_of_mul-le-mul_right, le-ltb}
use Prim.Native.Nat.{ℕ, zero, suc, ◌+◌, ◌*◌, ◌-◌, ◌/◌, ◌≤◌, ◌<◌}
use native.Mathlib.Omega.{arith}
use Rattle.std.proofs.Math.Nat.{div-le_of_le-mul, sub_self}
use Rattle.numbers.specs.Hint.{le_times, div_low}
use Rattle.numbers.specs.Sum.{sum_mono, sum_cong}
use Rattle.csl.specs.Limits.{billion}
use Rattle.csl.specs.Chain.{sum_to}
use Rattle.bounds.specs.Exact.{power, weight_bottom, weighted_sum, bottom_pos, bottom_split}
use Rattle.bounds.specs.Ladder.{ladder}
use Rattle.bounds.specs.Weight.{peak, low, apart, Middle, low_most, low_below, low_above}
use Rattle.bounds.specs.Unit.{unit, one, scale, grain, part}
use Rattle.bounds.specs.Last.{last_within}
use Rattle.bounds.specs.Under.{sum_below, sum_above_lem, later_below, later_above, sums_below}
use Rattle.bounds.specs.Ends.{LowerValues, gathered, last_step, lower_end, negligible, total}

pub last_step_within : (a b m d : ℕ) → last_step a b m d ≤ d
unfolding last_step
last_step_within a b m d = last_within (low a b m) (total a b m d / negligible) d 0

-- the weight of step m is the peak
pub low_peak : (a b m : ℕ) → low a b m m ≡ peak
unfolding low ladder
low_peak a b m = rw (le-ltb m m (omega arith), sub_self) refl

pub total_peak : (a b m d : ℕ) → m ≤ d → peak ≤ total a b m d
unfolding total sum_to
total_peak a b m d h =
    omega (arith, sum_mono (λ k. low a b m k + apart m k) (suc m) (suc d) (omega arith), low_peak a b m)

-- one term, over variables: t in grains, w under c * n / (k * e), v under o * x / (z * f)
term_below : (t w v c n k e x z f o : ℕ) → t * grain ≤ w * v → w * (k * e) ≤ c * n → v * (z * f) ≤ o * x
    → t * (k * z * (grain * e * f)) ≤ c * o * (n * x)
term_below t w v c n k e x z f o h i j =
    omega (arith, le_times (k * z * e * f) h, le_times (v * z * f) i, le_times (c * n) j)

-- cancelling what the end was divided by
end_cancelled : (l t s x y : ℕ) → 0 < t → l * t ≤ s * scale → s * grain * y ≤ t * one * x → l * y ≤ billion * x
end_cancelled l t s x y p h k =
    le_of_mul-le-mul_right {k = t * unit} (omega (arith, le_times (unit * y) h)) (omega arith)

module _ {a b q f m d : ℕ} {v x : ℕ → ℕ} (p : LowerValues a b q f m d v x) where
  -- what was gathered through a step up to d is at most the exact sum at each later depth
  gathered_below : (l : ℕ) → l ≤ d → (j : ℕ)
      → gathered a b m l v * (weight_bottom (b * q) (l + j) * (grain * power a m * f))
      ≤ peak * weight_bottom b m * one * weighted_sum a (b * q) x (l + j)
  unfolding gathered
  gathered_below l i =
      later_below a (b * q) (peak * weight_bottom b m * one) (grain * power a m * f) (gathered a b m l v) l x
      (sum_below a (b * q) (peak * weight_bottom b m * one) (grain * power a m * f) (λ k. part (low a b m k) (v k)) x l
      (λ k h. rw (bottom_split b q k)
      (term_below (part (low a b m k) (v k)) (low a b m k) (v k) (peak * weight_bottom b m) (power a k) (weight_bottom b k) (power a m) (x k)
      (power q k) f one
      (div_low (low a b m k * v k) grain) (low_below p.middle k) (p.values k (omega arith)))))

  each : (k : ℕ) → peak * weight_bottom b m * (power a k * power q k) ≤ (low a b m k + apart m k) * (weight_bottom (b * q) k * power a m)
  each k = rw (bottom_split b q k) (omega (arith, le_times (power q k) (low_above p.middle k)))

  halved : (k : ℕ) → d ≤ k → 2 * (power a (suc k) * power q (suc k)) ≤ power a k * power q k * (suc k * (b * q))
  unfolding power
  halved k h =
      let l : 2 * a ≤ suc k * b = omega (arith, p.halves, le_times b h) in
      omega (arith, le_times (power a k * power q k * q) l)

  -- the exact weights to each depth from d on are at most the total
  total_above : (j : ℕ)
      → peak * weight_bottom b m * (weighted_sum a (b * q) (power q) (d + j) + power a (d + j) * power q (d + j))
      ≤ total a b m d * (weight_bottom (b * q) (d + j) * power a m)
  unfolding total
  total_above =
      later_above a (b * q) (peak * weight_bottom b m) (power a m) (total a b m d) d (power q)
      halved
      (omega (
        arith,
        sum_above_lem a (b * q) (peak * weight_bottom b m) (power a m) (λ k. low a b m k + apart m k) (power q) d
            (λ k h. each k),
        each d,
      ))

  -- the lower end is at most the quotient at each depth from d on
  pub lower_end_lem : (j : ℕ) → lower_end a b m d v * (weighted_sum a (b * q) (power q) (d + j) * f) ≤ billion * weighted_sum a (b * q) x (d + j)
  unfolding lower_end
  lower_end_lem j =
      let l : ℕ = last_step a b m d in
      let e : last_step a b m d + (d - last_step a b m d + j) ≡ d + j = omega (arith, last_step_within a b m d) in
      let h = rw e at (gathered_below (last_step a b m d) (last_step_within a b m d) (d - last_step a b m d + j)) in
      end_cancelled (lower_end a b m d v) (total a b m d) (gathered a b m l v) (weighted_sum a (b * q) x (d + j))
      (weighted_sum a (b * q) (power q) (d + j) * f)
      (omega (arith, total_peak a b m d p.deep))
      (div_low (gathered a b m l v * scale) (total a b m d))
      (omega (
        arith,
        sums_below (gathered a b m l v * grain * f) (total a b m d) one (peak * weight_bottom b m) (weight_bottom (b * q) (d + j) * power a m)
            (weighted_sum a (b * q) x (d + j)) (weighted_sum a (b * q) (power q) (d + j))
            (mul-pos (omega arith) (bottom_pos b m p.middle.unit))
            (omega (arith, h))
            (omega (arith, total_above j)),
      ))

-- values of at most 1 gather at most the total
parts_most : (a b m : ℕ) (v : ℕ → ℕ) (n : ℕ) → ((k : ℕ) → k < n → v k ≤ one)
    → sum_to (λ k. part (low a b m k) (v k)) n * grain ≤ sum_to (λ k. low a b m k + apart m k) n * one
unfolding sum_to
parts_most a b m v zero h = omega arith
parts_most a b m v (suc n) h =
    let r : (k : ℕ) → k < n → v k ≤ one = λ k l. h k (omega arith) in
    omega (arith, parts_most a b m v n r, div_low (low a b m n * v n) grain, le_times (low a b m n) (h n (omega arith)))

-- the weights through a step up to d, each with what it may lack, are at most the total
pub weights_most : (a b m l d : ℕ) → l ≤ d → sum_to (λ k. low a b m k + apart m k) (suc l) ≤ total a b m d
unfolding total
weights_most a b m l d h = omega (arith, sum_mono (λ k. low a b m k + apart m k) (suc l) (suc d) (omega arith))

pub gathered_most : (a b m d : ℕ) (v : ℕ → ℕ) → ((k : ℕ) → k < suc d → v k ≤ one)
    → gathered a b m (last_step a b m d) v * grain ≤ total a b m d * one
unfolding gathered
gathered_most a b m d v h =
    omega (
      arith,
      parts_most a b m v (suc (last_step a b m d)) (λ k l. h k (omega (arith, last_step_within a b m d))),
      le_times one (weights_most a b m (last_step a b m d) d (last_step_within a b m d)),
    )

-- so their end is at most 1
pub end_most : (a b m d : ℕ) (v : ℕ → ℕ) → ((k : ℕ) → k < suc d → v k ≤ one) → lower_end a b m d v ≤ billion
unfolding lower_end
end_most a b m d v h = div-le_of_le-mul (total a b m d) (omega (arith, gathered_most a b m d v h))

-- values that are the same through step d gather the same, and have one end
pub gathered_same : (a b m d : ℕ) (v u : ℕ → ℕ) → ((k : ℕ) → k < suc d → v k ≡ u k)
    → gathered a b m (last_step a b m d) v ≡ gathered a b m (last_step a b m d) u
unfolding gathered
gathered_same a b m d v u h =
    sum_cong (λ k. part (low a b m k) (v k)) (λ k. part (low a b m k) (u k)) (suc (last_step a b m d))
    (λ k l. ap (λ (x : ℕ). part (low a b m k) x) (h k (omega (arith, last_step_within a b m d))))

pub end_same : (a b m d : ℕ) (v u : ℕ → ℕ) → ((k : ℕ) → k < suc d → v k ≡ u k) → lower_end a b m d v ≡ lower_end a b m d u
unfolding lower_end
end_same a b m d v u h = rw (gathered_same a b m d v u h) refl

-- how large the total is at most
totals_most : (a b m d : ℕ) → Middle a b m → m ≤ d → (n : ℕ) → n ≤ suc d → sum_to (λ k. low a b m k + apart m k) n ≤ n * (peak + d)
unfolding sum_to
totals_most a b m d p h zero l = omega arith
totals_most a b m d p h (suc n) l = omega (arith, totals_most a b m d p h n (omega arith), low_most p n)

pub total_most : (a b m d : ℕ) → Middle a b m → m ≤ d → total a b m d ≤ (d + 2) * (peak + d)
unfolding total
total_most a b m d p h = omega (arith, totals_most a b m d p h (suc d) (omega arith), low_most p d)
