-- Quotients of which one value counts stay above some fixed fraction from some depth on; and what they leave of 1 too. Assumes nothing.
use Rattle.std.specs.Prelude.{◌≡◌, ℕ, zero, suc, ◌+◌, ◌*◌, ◌-◌, ◌≤◌, ◌<◌, Bool, true, false}
use Rattle.std.proofs.Common.{ap, ⊎_elim, arith, mul-pos, mul-le-mul_left, mul-le-mul_right}
use Rattle.std.proofs.Math.Nat.{le-suc_iff}
use Rattle.csl.specs.Formula.{Less, More}
use Rattle.csl.specs.Fraction.{Fraction, frac, IsFraction, Below, plus, times, over, sum_up, billionths, part}
use Rattle.csl.specs.Chain.{Chain, top_rate, load, depth}
use Rattle.csl.specs.Phase.{divisor, step_top, step_value, weight, quotient}
use Rattle.csl.specs.Limit.{FromSome, LimitIs}
use Rattle.csl.specs.Until.{until_phase, until_quotient}
use Rattle.csl.proofs.Laws.Fraction.{below_trans, sum_is}
use Rattle.csl.proofs.Laws.Steps.{step_le, divisor_some}
use Rattle.csl.proofs.Laws.Quotient.{weight_is, weights_some, until_starts}
use Rattle.csl.proofs.Laws.Tail.{light_from, later}
use Rattle.csl.proofs.Laws.Left.{left_of, Shares, quotients_share}
use Rattle.csl.proofs.Laws.Led.{Reached}

-- at least 1/m from some depth on
pub record Parted (x : ℕ → Fraction) : Type 0 where
  pub m : ℕ
  pub from_one : 1 ≤ m
  pub begin : ℕ
  pub all : (n : ℕ) → begin ≤ n → Below (part m) (x n)

-- a sum one of whose terms is above 0
sum_above_lem : (f : ℕ → Fraction) → ((k : ℕ) → IsFraction (f k)) → (i n : ℕ) → i ≤ n → 0 < (f i).top → 0 < (sum_up f n).top
unfolding sum_up
sum_above_lem f is i zero h p = let e : i ≡ 0 = omega arith in rw e at p
sum_above_lem f is i (suc n) h p =
    ⊎_elim (λ l. omega (arith, mul-pos (sum_above_lem f is i n l p) (is (suc n))))
    (λ (e : i ≡ suc n). omega (arith, mul-pos (rw e at p) (sum_is f is n))) (le-suc_iff.0 h)

weight_above : (l : Fraction) → 0 < l.top → (k : ℕ) → 0 < (weight l k).top
unfolding weight
weight_above l h zero = omega arith
weight_above l h (suc k) = let p : 0 < (weight l k).top * l.top = mul-pos (weight_above l h k) h in omega arith

weight_first : (l : Fraction) → 0 < (weight l 0).top
unfolding weight
weight_first l = omega arith

least_part : (a : Fraction) → 0 < a.top → Below (part a.bottom) a
least_part a h = omega (arith, mul-le-mul_right a.bottom h)

load_is : (c : Chain) (t : ℕ) → IsFraction (load c t)
unfolding load
load_is c t = omega arith

load_above : (c : Chain) (t : ℕ) → 0 < top_rate c → 0 < t → 0 < (load c t).top
unfolding load
load_above c t q h = mul-pos q h

whole_some : (c : Chain) (t d : ℕ) → 0 < (plus (sum_up (weight (load c t)) d) (weight (load c t) d)).top
whole_some c t d =
    let h : 0 < (sum_up (weight (load c t)) d).top * (weight (load c t) d).bottom
    = mul-pos (weights_some c t d) (weight_is (load c t) (load_is c t) d) in
    omega arith

-- where the value v k counts
parted : (c : Chain) (t : ℕ) (v : ℕ → Fraction) → ((k : ℕ) → IsFraction (v k)) → (k : ℕ) → 0 < (weight (load c t) k).top → 0 < (v k).top
    → Parted (quotient (load c t) v)
parted c t v vs k w p =
    let l : Fraction = load c t in
    let is : IsFraction l = load_is c t in
    let d : ℕ = depth c t + k in
    let x : Fraction = sum_up (λ j. times (weight l j) (v j)) d in
    let u : Fraction = plus (sum_up (weight l) d) (weight l d) in
    let xs : (j : ℕ) → IsFraction (times (weight l j) (v j)) = λ j. mul-pos (weight_is l is j) (vs j) in
    let top : 0 < x.top = sum_above_lem (λ j. times (weight l j) (v j)) xs k d (omega arith) (mul-pos w p) in
    let bottom : 0 < x.bottom = sum_is (λ j. times (weight l j) (v j)) xs d in
    let ub : 0 < u.bottom = mul-pos (sum_is (weight l) (weight_is l is) d) (weight_is l is d) in
    let whole : 0 < u.top = whole_some c t d in
    record {
      m = (over x u).bottom;
      from_one = mul-pos bottom whole;
      begin = d;
      all = λ n g.
          let e : d + (n - d) ≡ n = omega arith in
          let z : Below (part (over x u).bottom) (quotient l v (d + (n - d)))
          = below_trans (part (over x u).bottom) (over x u) _ (mul-pos bottom whole) (least_part (over x u) (mul-pos top ub))
          (later l is d (light_from c t d (omega arith)) v vs (n - d)) in
          rw e at z;
    }

step_is : (c : Chain) (x y : ℕ → Bool) (s k : ℕ) → IsFraction (step_value c (until_phase x y) s k)
step_is c x y s k = divisor_some c 1 (omega arith) k

-- a value above 0 at a step that counts
pub reached_parted : (c : Chain) (t : ℕ) (x y : ℕ → Bool) (s : ℕ) → 0 < t → Reached c x y s → Parted (until_quotient c t x y s)
reached_parted c t x y s h k =
    parted c t (step_value c (until_phase x y) s) (step_is c x y s) k.step
    (⊎_elim (λ z. rw z (weight_first (load c t))) (λ q. weight_above (load c t) (load_above c t q h) k.step) k.moving) k.some

pub second_parted : (c : Chain) (t : ℕ) (x y : ℕ → Bool) (s : ℕ) → y s ≡ true → Parted (until_quotient c t x y s)
unfolding step_top
second_parted c t x y s e =
    parted c t (step_value c (until_phase x y) s) (step_is c x y s) 0 (weight_first (load c t)) (rw e (omega arith))

-- what is left of 1, where the second operand does not hold
left_parted : (c : Chain) (t : ℕ) (x y : ℕ → Bool) (s : ℕ) → y s ≡ false → Parted (quotient (load c t) (left_of (step_value c (until_phase x y) s)))
unfolding step_top divisor
left_parted c t x y s e =
    parted c t (left_of (step_value c (until_phase x y) s)) (step_is c x y s) 0 (weight_first (load c t)) (rw e (omega arith))

-- so in the limit: more than 0, less than 1
pub more_than_0 : (x : ℕ → Fraction) → Parted x → LimitIs More 0 (FromSome x)
more_than_0 x k =
    record {
      m = k.m;
      from_one = k.from_one;
      holds = record { begin = k.begin; all = λ n l. omega (arith, mul-le-mul_left 1000000000 (k.all n l)) };
    }

less_by : (x y : Fraction) (m : ℕ) → Shares x y (frac 1 1) → Below (part m) x → Below (plus y (part m)) (billionths 1000000000)
less_by x y m h k = omega (arith, h.bottoms, k, ap (λ (e : ℕ). e * m) h.tops, ap (λ (e : ℕ). e * m) h.bottoms)

pub less_than_1 : (c : Chain) (t : ℕ) (x y : ℕ → Bool) (s : ℕ) → s < c.states → y s ≡ false
    → LimitIs Less 1000000000 (FromSome (until_quotient c t x y s))
less_than_1 c t x y s l e =
    let k = left_parted c t x y s e in
    let share = quotients_share (load c t) (step_value c (until_phase x y) s) (λ j. step_le c (until_phase x y) (until_starts c x y) j s l) in
    record {
      m = k.m;
      from_one = k.from_one;
      holds = record { begin = k.begin; all = λ n b. less_by _ (until_quotient c t x y s n) k.m (share n) (k.all n b) };
    }
