-- Values that do not change with the step: certain, impossible, and with load 0. Assumes nothing.
use Rattle.std.specs.Prelude.{◌≡◌, refl, Bool, true, false, cond, ℕ, zero, suc, ◌*◌, ◌≤◌, ◌<◌, eqb}
use Rattle.std.proofs.Common.{ap, arith, mul-le-mul_left}
use Rattle.csl.specs.Fraction.{Fraction, frac, Below, Same, times, sum_up}
use Rattle.csl.specs.Chain.{Chain, top_rate}
use Rattle.csl.specs.Phase.{Phase, divisor, stepped, step_top, weight, quotient}
use Rattle.csl.proofs.Laws.Fraction.{below_sum}
use Rattle.csl.proofs.Laws.Steps.{moved_le}

-- pinned to 1 from the start: 1 at every step
stepped_one : (still nil : Bool) (before u sum q : ℕ) → before ≡ u → stepped still true nil before (u * cond still 1 q) sum ≡ u * cond still 1 q
stepped_one true nil before u sum q e = omega arith
stepped_one false nil before u sum q e = refl

pub step_one : (c : Chain) (ph : Phase) (s : ℕ) → ph.one s ≡ true → ph.start s ≡ ph.whole → (k : ℕ) → step_top c ph k s ≡ divisor c ph.whole k
unfolding step_top divisor
step_one c ph s o e zero = e
step_one c ph s o e (suc k) = rw o (stepped_one (eqb (top_rate c) 0) (ph.nil s) _ _ _ (top_rate c) (step_one c ph s o e k))

-- pinned to 0 from the start: 0 at every step
stepped_nil : (still : Bool) (before u sum : ℕ) → before ≡ 0 → stepped still false true before u sum ≡ 0
stepped_nil true before u sum e = e
stepped_nil false before u sum e = refl

pub step_nil : (c : Chain) (ph : Phase) (s : ℕ) → ph.one s ≡ false → ph.nil s ≡ true → ph.start s ≡ 0 → (k : ℕ) → step_top c ph k s ≡ 0
unfolding step_top
step_nil c ph s o z e zero = e
step_nil c ph s o z e (suc k) = rw (o, z) (stepped_nil (eqb (top_rate c) 0) _ _ _ (step_nil c ph s o z e k))

-- values of at least 1 have quotients of at least 1
below_times : (x y : Fraction) → y.bottom ≤ y.top → Below x (times x y)
below_times x y h = omega (arith, mul-le-mul_left (x.top * x.bottom) h)

pub quotient_ge : (l : Fraction) (v : ℕ → Fraction) → ((k : ℕ) → (v k).bottom ≤ (v k).top) → (n : ℕ) → (quotient l v n).bottom ≤ (quotient l v n).top
unfolding quotient
quotient_ge l v h n =
    omega (arith, below_sum (weight l) (λ k. times (weight l k) (v k)) (λ k. below_times (weight l k) (v k) (h k)) n)

-- values of 0 have quotients of 0
sum_nil : (f : ℕ → Fraction) → ((k : ℕ) → (f k).top ≡ 0) → (n : ℕ) → (sum_up f n).top ≡ 0
unfolding sum_up
sum_nil f h zero = h 0
sum_nil f h (suc n) = rw (sum_nil f h n, h (suc n)) (omega arith)

pub quotient_nil : (l : Fraction) (v : ℕ → Fraction) → ((k : ℕ) → (v k).top ≡ 0) → (n : ℕ) → (quotient l v n).top ≡ 0
unfolding quotient
quotient_nil l v h n =
    rw (sum_nil (λ k. times (weight l k) (v k)) (λ k. rw (h k) (omega arith)) n) (omega arith)

-- with load 0 the first value is all that counts
sum_first : (f : ℕ → Fraction) → ((k : ℕ) → (f (suc k)).top ≡ 0) → (n : ℕ) → Same (sum_up f n) (f 0)
unfolding sum_up
sum_first f h zero = refl
sum_first f h (suc n) =
    omega (arith, ap (λ (x : ℕ). x * (f (suc n)).bottom) (sum_first f h n), ap (λ (x : ℕ). x * ((sum_up f n).bottom * (f 0).bottom)) (h n))

weight_nil : (l : Fraction) → l.top ≡ 0 → (k : ℕ) → (weight l (suc k)).top ≡ 0
unfolding weight
weight_nil l e k = rw e (omega arith)

pub quotient_first : (l : Fraction) (v : ℕ → Fraction) → l.top ≡ 0 → (n : ℕ) → Same (quotient l v n) (v 0)
unfolding quotient weight
quotient_first l v e n =
    let x : Fraction = sum_up (λ k. times (weight l k) (v k)) n in
    let w : Fraction = sum_up (weight l) n in
    let h : Same x (times (frac 1 1) (v 0)) = sum_first (λ k. times (weight l k) (v k)) (λ k. rw (weight_nil l e k) (omega arith)) n in
    let k : Same w (frac 1 1) = sum_first (weight l) (weight_nil l e) n in
    omega (arith, ap (λ (y : ℕ). y * w.bottom) h, ap (λ (y : ℕ). y * ((v 0).top * x.bottom)) k)

-- where no state starts above 0 and none is pinned to 1: 0 at every step
stepped_empty : (still nil : Bool) (before u sum : ℕ) → before ≤ 0 → sum ≤ 0 → stepped still false nil before u sum ≤ 0
stepped_empty true nil before u sum h k = h
stepped_empty false true before u sum h k = omega arith
stepped_empty false false before u sum h k = k

pub step_empty : (c : Chain) (ph : Phase) → ((s : ℕ) → s < c.states → ph.one s ≡ false) → ((s : ℕ) → s < c.states → ph.start s ≡ 0)
    → (k s : ℕ) → s < c.states → step_top c ph k s ≤ 0
unfolding step_top
step_empty c ph o e zero s l = omega (arith, e s l)
step_empty c ph o e (suc k) s l =
    rw (o s l)
    (stepped_empty (eqb (top_rate c) 0) (ph.nil s) _ _ _ (step_empty c ph o e k s l)
    (omega (arith, moved_le c (step_top c ph k) 0 s (step_empty c ph o e k) l)))
