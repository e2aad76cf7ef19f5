-- The lower end lies below the quotients of the definition from the depth on: their sums of fractions are the exact weighted sums. Assumes
-- nothing.
use Rattle.std.specs.Prelude.{◌≡◌, refl, ℕ, zero, suc, ◌+◌, ◌*◌, ◌≤◌, ◌<◌}
use Rattle.std.proofs.Common.{arith, mul-pos, le_of_mul-le-mul_right}
use Rattle.std.proofs.Math.Nat.{eq_of_mul-eq-mul_right}
use Rattle.numbers.specs.Hint.{le_times, eq_times}
use Rattle.csl.specs.Limits.{billion}
use Rattle.csl.specs.Fraction.{Fraction, frac, Below, Same, plus, times, over, sum_up, billionths}
use Rattle.csl.specs.Phase.{weight, quotient}
use Rattle.bounds.specs.Exact.{power, weight_bottom, weighted_sum, bottom_pos, bottom_split, weighted_some}
use Rattle.bounds.specs.Ends.{lower_end, LowerValues}
use Rattle.bounds.proofs.Ends.{lower_end_lem}

-- the weight of step k is power a k / weight_bottom b k
weight_top : (a b k : ℕ) → (weight (frac a b) k).top ≡ power a k
unfolding weight power
weight_top a b zero = refl
weight_top a b (suc k) = rw (weight_top a b k) (omega arith)

weight_bottom_lem : (a b k : ℕ) → (weight (frac a b) k).bottom ≡ weight_bottom b k
unfolding weight weight_bottom
weight_bottom_lem a b zero = refl
weight_bottom_lem a b (suc k) = rw (weight_bottom_lem a b k) (omega arith)

same_plus : (x y : Fraction) (t u d e n : ℕ) → Same x (frac t (d * e)) → Same y (frac u (d * n * e))
    → Same (plus x y) (frac (t * n + u) (d * n * e))
same_plus x y t u d e n h k =
    omega (arith, eq_times (y.bottom * n) h, eq_times x.bottom k)

-- terms that are equal fractions have equal sums
sum_top : (a b e : ℕ) (f : ℕ → Fraction) (x : ℕ → ℕ) → ((k : ℕ) → Same (f k) (frac (power a k * x k) (weight_bottom b k * e)))
    → (n : ℕ) → Same (sum_up f n) (frac (weighted_sum a b x n) (weight_bottom b n * e))
unfolding sum_up weighted_sum power weight_bottom
sum_top a b e f x h zero = omega (arith, h 0)
sum_top a b e f x h (suc n) =
    same_plus (sum_up f n) (f (suc n)) (weighted_sum a b x n) (power a (suc n) * x (suc n)) (weight_bottom b n) e (suc n * b) (sum_top a b e f x h n) (h (suc n))

-- a quotient of two sums, over variables: x is p / (d * f), y is r / d
over_same : (x y : Fraction) (p r d f : ℕ) → 0 < d → Same x (frac p (d * f)) → Same y (frac r (d * 1)) → Same (over x y) (frac p (r * f))
over_same x y p r d f z h k =
    eq_of_mul-eq-mul_right d z (x.top * y.bottom * (r * f)) (p * (x.bottom * y.top))
    (omega (arith, eq_times (y.bottom * r) h, eq_times (p * x.bottom) k))

-- the quotients of the fractions x k / y k, with y k the k-th power of q times f
pub quotient_exact : (a b q f : ℕ) → 0 < b → 0 < q → (x y : ℕ → ℕ) → ((k : ℕ) → y k ≡ power q k * f) → (n : ℕ)
    → Same (quotient (frac a b) (λ k. frac (x k) (y k)) n) (frac (weighted_sum a (b * q) x n) (weighted_sum a (b * q) (power q) n * f))
unfolding quotient
quotient_exact a b q f some rate x y powers n =
    over_same (sum_up (λ k. times (weight (frac a b) k) (frac (x k) (y k))) n) (sum_up (weight (frac a b)) n)
    (weighted_sum a (b * q) x n) (weighted_sum a (b * q) (power q) n) (weight_bottom (b * q) n) f
    (bottom_pos (b * q) n (mul-pos some rate))
    (sum_top a (b * q) f (λ k. times (weight (frac a b) k) (frac (x k) (y k))) x
    (λ k. rw (powers k, weight_top a b k, weight_bottom_lem a b k, bottom_split b q k) (omega arith)) n)
    (sum_top a (b * q) 1 (weight (frac a b)) (power q)
    (λ k. rw (weight_top a b k, weight_bottom_lem a b k, bottom_split b q k) (omega arith)) n)

pub powers_some : (a b q n : ℕ) → 0 < b → 0 < q → 0 < weighted_sum a (b * q) (power q) n
unfolding power
powers_some a b q n h k = weighted_some a (b * q) (power q) (mul-pos h k) (omega arith) n

below_same : (l p r : ℕ) (x : Fraction) → 0 < r → Same x (frac p r) → l * r ≤ billion * p → Below (billionths l) x
below_same l p r x z h k = le_of_mul-le-mul_right {k = r} (omega (arith, le_times x.bottom k, eq_times billion h)) z

-- the lower end of values v that lie below such fractions is below their quotients
pub end_below : {a b q f m d : ℕ} {v x : ℕ → ℕ} (y : ℕ → ℕ) → ((k : ℕ) → y k ≡ power q k * f) → 0 < f → LowerValues a b q f m d v x → (j : ℕ)
    → Below (billionths (lower_end a b m d v)) (quotient (frac a b) (λ k. frac (x k) (y k)) (d + j))
end_below {a} {b} {q} {f} {m} {d} {v} {x} y powers some p j =
    below_same (lower_end a b m d v) (weighted_sum a (b * q) x (d + j)) (weighted_sum a (b * q) (power q) (d + j) * f) _
    (mul-pos (powers_some a b q (d + j) p.middle.unit p.rate) some)
    (quotient_exact a b q f p.middle.unit p.rate x y powers (d + j))
    (lower_end_lem p j)
