-- From step D - 40 on each weight is at most half the one before; the weights after D add to at most the weight of D. Assumes nothing.
use Prim.Native.Nat.{ℕ, zero, suc, ◌+◌, ◌*◌, ◌≤◌}
use Rattle.std.proofs.Common.{arith, mul-le-mul, mul-le-mul_left, mul-le-mul_right}
use Rattle.std.proofs.Math.Nat.{add-zero, add-suc, mul-pos}
use Rattle.csl.specs.Fraction.{Fraction, frac, IsFraction, Below, plus, times, over, sum_up}
use Rattle.csl.specs.Chain.{Chain, load, depth}
use Rattle.csl.specs.Phase.{weight, quotient}
use Rattle.csl.proofs.Laws.Fraction.{below_trans, below_plus, sum_is}
use Rattle.csl.proofs.Laws.Quotient.{weight_is}

below_refl : (x : Fraction) → Below x x
below_refl x = omega arith

-- twice the load is at most k
abbrev pub Light : Fraction → ℕ → Type 0
Light l k = 2 * l.top ≤ k * l.bottom

pub light_from : (c : Chain) (t k : ℕ) → depth c t ≤ k + 40 → Light (load c t) k
unfolding depth load
light_from c t k h = omega arith

half_step : (w l : Fraction) (k : ℕ) → Light l k → Below (times (frac 2 1) (over (times w l) (frac (suc k) 1))) w
half_step w l k h = omega (arith, mul-le-mul_left (w.top * w.bottom) h)

-- in the last 40 steps up to D, and after, each weight is at most half the one before
pub half_weight : (c : Chain) (t k : ℕ) → depth c t ≤ k + 40
    → Below (times (frac 2 1) (weight (load c t) (suc k))) (weight (load c t) k)
unfolding weight
half_weight c t k h = half_step (weight (load c t) k) (load c t) k (light_from c t k h)

twice_below : (x w : Fraction) → Below (times (frac 2 1) x) w → Below (plus x x) w
twice_below x w h = omega (arith, mul-le-mul_right x.bottom h)

regroup : (x y z : Fraction) → Below (plus (plus x y) z) (plus x (plus y z))
regroup x y z = omega arith

below_more : (x y : Fraction) → Below x (plus x y)
below_more x y = omega arith

-- less over more
pub over_below : (x x' y y' : Fraction) → Below x x' → Below y' y → Below (over x y) (over x' y')
over_below x x' y y' h k = omega (arith, mul-le-mul h k)

module _ (l : Fraction) (is : IsFraction l) (d : ℕ) (light : Light l d) where
  lighter : (k : ℕ) → d ≤ k → Light l k
  lighter k h = omega (arith, mul-le-mul_right l.bottom h)

  halves : (k : ℕ) → d ≤ k → Below (plus (weight l (suc k)) (weight l (suc k))) (weight l k)
  unfolding weight
  halves k h = twice_below _ (weight l k) (half_step (weight l k) l k (lighter k h))

  sums_is : (n : ℕ) → IsFraction (sum_up (weight l) n)
  sums_is n = sum_is (weight l) (weight_is l is) n

  -- what is added from step to step is made up for by the fall of the last weight
  tail : (j : ℕ) → Below (plus (sum_up (weight l) (d + j)) (weight l (d + j))) (plus (sum_up (weight l) d) (weight l d))
  unfolding sum_up
  tail zero = rw add-zero (below_refl _)
  tail (suc j) =
      let s : Fraction = sum_up (weight l) (d + j) in
      let w : Fraction = weight l (d + j) in
      let u : Fraction = weight l (suc (d + j)) in
      rw add-suc
      (below_trans (plus (plus s u) u) (plus s (plus u u)) _ (mul-pos (sums_is (d + j)) (mul-pos (weight_is l is _) (weight_is l is _)))
      (regroup s u u)
      (below_trans (plus s (plus u u)) (plus s w) _ (mul-pos (sums_is (d + j)) (weight_is l is _))
      (below_plus s s (plus u u) w (below_refl s) (halves (d + j) (omega arith))) (tail j)))

  -- the weights after d add to at most the weight of d
  pub weights_after : (j : ℕ) → Below (sum_up (weight l) (d + j)) (plus (sum_up (weight l) d) (weight l d))
  weights_after j =
      let s : Fraction = sum_up (weight l) (d + j) in
      below_trans s (plus s (weight l (d + j))) _ (mul-pos (sums_is (d + j)) (weight_is l is _)) (below_more s _) (tail j)

  -- the same of the weights after d alone
  after_tail : (j : ℕ) → Below (plus (sum_up (λ i. weight l (suc d + i)) j) (weight l (suc d + j))) (weight l d)
  unfolding sum_up
  after_tail zero = rw add-zero (halves d (omega arith))
  after_tail (suc j) =
      let s : Fraction = sum_up (λ i. weight l (suc d + i)) j in
      let w : Fraction = weight l (suc d + j) in
      let u : Fraction = weight l (suc (suc d + j)) in
      let p : IsFraction s = sum_is (λ i. weight l (suc d + i)) (λ i. weight_is l is _) j in
      rw add-suc
      (below_trans (plus (plus s u) u) (plus s (plus u u)) _ (mul-pos p (mul-pos (weight_is l is _) (weight_is l is _)))
      (regroup s u u)
      (below_trans (plus s (plus u u)) (plus s w) _ (mul-pos p (weight_is l is _))
      (below_plus s s (plus u u) w (below_refl s) (halves (suc d + j) (omega arith))) (after_tail j)))

  pub after : (j : ℕ) → Below (sum_up (λ i. weight l (suc d + i)) j) (weight l d)
  after j =
      let s : Fraction = sum_up (λ i. weight l (suc d + i)) j in
      let p : IsFraction s = sum_is (λ i. weight l (suc d + i)) (λ i. weight_is l is _) j in
      below_trans s (plus s (weight l (suc d + j))) _ (mul-pos p (weight_is l is _)) (below_more s _) (after_tail j)

  -- sums of fractions grow
  pub grows : (f : ℕ → Fraction) → ((k : ℕ) → IsFraction (f k)) → (j : ℕ) → Below (sum_up f d) (sum_up f (d + j))
  unfolding sum_up
  grows f h zero = rw add-zero (below_refl _)
  grows f h (suc j) =
      rw add-suc (below_trans (sum_up f d) (sum_up f (d + j)) _ (sum_is f h (d + j)) (grows f h j) (below_more _ _))

  -- a lower bound of the quotient at every depth from d on, by what is known at d
  pub later : (v : ℕ → Fraction) → ((k : ℕ) → IsFraction (v k)) → (j : ℕ)
      → Below (over (sum_up (λ k. times (weight l k) (v k)) d) (plus (sum_up (weight l) d) (weight l d))) (quotient l v (d + j))
  unfolding quotient
  later v h j =
      over_below _ _ _ _ (grows (λ k. times (weight l k) (v k)) (λ k. mul-pos (weight_is l is k) (h k)) j) (weights_after j)
