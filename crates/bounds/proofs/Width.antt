-- The two ends of a phase, from one run of its values, are at most 2 × D apart to depth 1023, half of what the paper allows, and e units more where the values lacked e
-- at step 0. Assumes nothing.
use Rattle.std.specs.Prelude.{◌≡◌, refl}
use Prim.Native.Nat.{ℕ, zero, suc, ◌+◌, ◌*◌, ◌-◌, ◌/◌, ◌^◌, ◌≤◌, ◌<◌}
use native.Mathlib.Omega.{arith}
use Rattle.std.proofs.Common.{mul-pos, pow-suc, add-zero, add-suc, le_of_mul-le-mul_right, lt_of_lt_of_le, le-ltb}
use Rattle.numbers.specs.Hint.{le_times, div_low, div_high}
use Rattle.csl.specs.Chain.{sum_to}
use Rattle.bounds.specs.Ladder.{ladder}
use Rattle.bounds.specs.Weight.{peak, low, apart, Middle, low_most}
use Rattle.bounds.specs.Unit.{unit, one, scale, grain, part}
use Rattle.bounds.specs.Ends.{total, negligible, last_step, gathered, lower_end}
use Rattle.bounds.proofs.Ends.{last_step_within, total_peak, weights_most}
use Rattle.bounds.specs.Last.{last_rest}
use Rattle.bounds.specs.Upper.{gatherable, left_end, upper_end}
use Rattle.bounds.specs.Width.{Halved, most_depth}

-- a lower weight after the middle, from the one before
pub low_next : (a b m k : ℕ) → m ≤ k → low a b m (suc k) ≡ low a b m k * a / (suc k * b)
unfolding low ladder
low_next a b m k h =
    let e : suc k - m ≡ suc (k - m) = omega arith in
    let f : m + (k - m) ≡ k = omega arith in
    rw (le-ltb (suc k) m (omega arith), le-ltb k m h, e, f) refl

-- where each weight is at most half the one before, the lower weight j steps on is at most the peak over 2 ^ j
pub low_halved : (a b m r : ℕ) → Middle a b m → m ≤ r → 2 * a ≤ suc r * b → (j : ℕ) → low a b m (r + j) * 2 ^ j ≤ peak
low_halved a b m r p h l zero = rw add-zero (omega (arith, low_most p r))
low_halved a b m r p h l (suc j) =
    rw (add-suc, low_next a b m (r + j) (omega arith), pow-suc 2 j)
    (omega (
      arith,
      low_halved a b m r p h l j,
      le_times (2 ^ j) (half (low a b m (r + j)) a (suc (r + j) * b) (mul-pos (omega arith) p.unit) (omega arith)),
    ))
  where
    half : (w a y : ℕ) → 0 < y → 2 * a ≤ y → w * a / y * 2 ≤ w
    half w a y q i = le_of_mul-le-mul_right {k = y} (omega (arith, div_low (w * a) y, le_times w i)) q

-- after 40 such steps next to nothing is left of the peak
pub low_last : (a b m r : ℕ) → Middle a b m → m ≤ r → 2 * a ≤ suc r * b → low a b m (r + 40) ≤ 1
low_last a b m r p h l = omega (arith, low_halved a b m r p h l 40)

-- the total is little more than the sum of the lower weights
total_sum : (a b m n d : ℕ) → m ≤ d → n ≤ suc d → sum_to (λ k. low a b m k + apart m k) n ≤ sum_to (low a b m) n + n * d
unfolding sum_to
total_sum a b m zero d h l = omega arith
total_sum a b m (suc n) d h l = omega (arith, total_sum a b m n d h (omega arith))

sums_le : (a b m n : ℕ) → sum_to (low a b m) n ≤ sum_to (λ k. low a b m k + apart m k) n
unfolding sum_to
sums_le a b m zero = omega arith
sums_le a b m (suc n) = omega (arith, sums_le a b m n)

-- what can be gathered is little less than the sum of the lower weights, where values are at most x + k too low; first one term
term_gap : (w o x k d : ℕ) → k ≤ d → w * o ≤ (part w (o - (x + k)) + 1) * grain + w * (d + x)
term_gap w o x k d l =
    let h : o ≤ o - (x + k) + (d + x) = omega arith in
    omega (arith, div_high (w * (o - (x + k))) {y = grain} (omega arith), le_times w h)

gathered_gap : (w : ℕ → ℕ) (o x d n : ℕ) → n ≤ suc d
    → sum_to w n * o ≤ (sum_to (λ k. part (w k) (o - (x + k))) n + n) * grain + sum_to w n * (d + x)
unfolding sum_to
gathered_gap w o x d zero l = omega arith
gathered_gap w o x d (suc n) l =
    omega (arith, gathered_gap w o x d n (omega arith), term_gap (w n) o x n d (omega arith))

-- all roundings together are at most 2 * d billionths of the total t: w the sum of the lower weights, e what the total is above it, z of
-- that dropped
roundings : (t w d e z : ℕ) → peak ≤ t → 40 ≤ d → d ≤ most_depth → w ≤ t → z * negligible ≤ t → e ≤ d * d + 3 * d + 1 + z
    → 2 * unit * t + 2 * suc d * grain + w * d + one * e ≤ 2 * unit * (d * t)
roundings t w d e z p d40 deep wt zt eb = omega (arith, le_times d wt, le_times t d40, le_times d p, le_times d deep)

-- the two ends miss 1 by at most 2 * d billionths and x units, over variables: g and h what was gathered and what was left, y for w * x
ends_short : (l l' g h t w d e y : ℕ) → 2 * unit * t + 2 * suc d * grain + w * d + one * e ≤ 2 * unit * (d * t)
    → g * scale < (l + 1) * t → h * scale < (l' + 1) * t
    → w * one ≤ (g + h + 2 * suc d) * grain + w * d + y → t ≤ w + e
    → one * t ≤ (l + l' + 2 * d) * unit * t + y
ends_short l l' g h t w d e y r i j k tw = omega arith

ends_joined : (t c x y : ℕ) → one * t ≤ c * unit * t + y → y ≤ t * x → one * t ≤ (c * unit + x) * t
ends_joined t c x y h k = omega arith

ends_gap : (l l' g h t w d e z x : ℕ) → peak ≤ t → 40 ≤ d → d ≤ most_depth
    → g * scale < (l + 1) * t → h * scale < (l' + 1) * t
    → w * one ≤ (g + h + 2 * suc d) * grain + w * d + w * x
    → w ≤ t → t ≤ w + e → z * negligible ≤ t → e ≤ d * d + 3 * d + 1 + z
    → one ≤ (l + l' + 2 * d) * unit + x
ends_gap l l' g h t w d e z x p d40 deep i j k wt tw zt eb =
    le_of_mul-le-mul_right {k = t}
    (ends_joined t (l + l' + 2 * d) x (w * x)
    (ends_short l l' g h t w d e (w * x) (roundings t w d e z p d40 deep wt zt eb) i j k tw)
    (le_times x wt))
    (lt_of_lt_of_le (omega arith) p)

module _ {a b m r : ℕ} (x : ℕ) (v : ℕ → ℕ) (p : Halved a b m r) where
  -- the lower end and what is left of 1, whatever the values
  short : one ≤ (lower_end a b m (r + 40) v + left_end a b m (r + 40) x v + 2 * (r + 40)) * unit + x
  unfolding lower_end left_end gatherable total last_step sum_to
  short =
      let deep : m ≤ r + 40 = omega (arith, p.early) in
      let t : 0 < total a b m (r + 40) = omega (arith, total_peak a b m (r + 40) deep) in
      let apart-last : apart m (r + 40) ≤ r + 40 = omega arith in
      let l : ℕ = last_step a b m (r + 40) in
      let within : last_step a b m (r + 40) ≤ r + 40 = last_step_within a b m (r + 40) in
      let z : ℕ = total a b m (r + 40) / negligible in
      ends_gap (lower_end a b m (r + 40) v) (left_end a b m (r + 40) x v) (gathered a b m l v) (gatherable a b m l x - gathered a b m l v)
      (total a b m (r + 40)) (sum_to (low a b m) (suc l)) (r + 40) (suc (r + 40) * (r + 40) + (1 + (r + 40)) + z) z x
      (total_peak a b m (r + 40) deep)
      (omega arith)
      p.small
      (div_high (gathered a b m l v * scale) t)
      (div_high ((gatherable a b m l x - gathered a b m l v) * scale) t)
      (omega (arith, within, gathered_gap (low a b m) one x (r + 40) (suc l) (omega (arith, within))))
      (omega (arith, sums_le a b m (suc l), weights_most a b m l (r + 40) within))
      (omega (
        arith,
        total_sum a b m (suc (r + 40)) (r + 40) deep (omega arith),
        last_rest (low a b m) z (r + 40) 0 (omega arith),
        low_last a b m r p.middle p.early p.halves,
        apart-last,
      ))
      (div_low (total a b m (r + 40)) negligible)
      (omega arith)

  -- the two ends
  pub width : upper_end a b m (r + 40) x v * unit ≤ (lower_end a b m (r + 40) v + 2 * (r + 40)) * unit + x
  width = omega (arith, short)
