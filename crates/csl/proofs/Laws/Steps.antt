-- Step values lie from 0 to 1 and rise with the phase. Assumes nothing.
use Rattle.std.specs.Prelude.{◌≡◌, refl, Bool, true, false, cond, ℕ, zero, suc, ◌*◌, ◌-◌, ◌≤◌, ◌<◌, eqb}
use Rattle.std.proofs.Common.{ap, arith, mul-le-mul_left, mul-pos, sub-add_cancel}
use Rattle.std.proofs.lemmas.Bool.{false≢true, eqb-false}
use Rattle.csl.specs.Chain.{Chain, away, exit_rate, top_rate}
use Rattle.csl.specs.Phase.{Phase, divisor, moved, stepped, step_top}
use Rattle.csl.proofs.Laws.Sum.{greatest_le, sum_weighted, sum_rises}
use Rattle.csl.specs.Laws.Steps.{PhaseUnder, Starts}

pub exit_le : (c : Chain) (s : ℕ) → s < c.states → exit_rate c s ≤ top_rate c
unfolding top_rate
exit_le c s h = greatest_le (exit_rate c) s c.states h

-- no step divides by 0
pace_some : (q : ℕ) (still : Bool) → eqb q 0 ≡ still → 0 < cond still 1 q
pace_some q true e = omega arith
pace_some q false e = let n : q ≡ 0 → ⊥ = eqb-false q 0 e in omega arith

pub divisor_some : (c : Chain) (w : ℕ) → 0 < w → (k : ℕ) → 0 < divisor c w k
unfolding divisor
divisor_some c w p zero = p
divisor_some c w p (suc k) = mul-pos (divisor_some c w p k) (pace_some (top_rate c) (eqb (top_rate c) 0) refl)

pub moved_rises : (c : Chain) (v w : ℕ → ℕ) (s : ℕ) → ((t : ℕ) → t < c.states → v t ≤ w t) → s < c.states → moved c v s ≤ moved c w s
unfolding moved
moved_rises c v w s h l =
    omega (arith, sum_rises (away c s) v w c.states h, mul-le-mul_left (top_rate c - exit_rate c s) (h s l))

pub moved_le : (c : Chain) (v : ℕ → ℕ) (u s : ℕ) → ((t : ℕ) → t < c.states → v t ≤ u) → s < c.states → moved c v s ≤ u * top_rate c
unfolding moved exit_rate
moved_le c v u s h l =
    let e : exit_rate c s ≤ top_rate c = exit_le c s l in
    omega (
      arith,
      sum_weighted (away c s) v u c.states h,
      mul-le-mul_left (top_rate c - exit_rate c s) (h s l),
      ap (λ (x : ℕ). x * u) (sub-add_cancel e),
    )

-- the rules for a later step, each at most 1
stepped_le : (still one nil : Bool) (before u sum q : ℕ) → before ≤ u → sum ≤ u * q
    → stepped still one nil before (u * cond still 1 q) sum ≤ u * cond still 1 q
stepped_le true one nil before u sum q h k = omega arith
stepped_le false true nil before u sum q h k = omega arith
stepped_le false false true before u sum q h k = omega arith
stepped_le false false false before u sum q h k = k

-- the rules for a later step rise
stepped_rises : (still one nil one' nil' : Bool) (before before' u u' sum sum' : ℕ)
    → (one ≡ true → one' ≡ true) → (nil' ≡ true → nil ≡ true) → before ≤ before' → sum ≤ sum' → u ≡ u'
    → stepped still one nil before u sum ≤ u
    → stepped still one nil before u sum ≤ stepped still one' nil' before' u' sum'
stepped_rises true one nil one' nil' b b' u u' m m' o z h k e l = h
stepped_rises false true nil one' nil' b b' u u' m m' o z h k e l = rw (o refl) (omega arith)
stepped_rises false false nil true nil' b b' u u' m m' o z h k e l = omega arith
stepped_rises false false true false nil' b b' u u' m m' o z h k e l = omega arith
stepped_rises false false false false true b b' u u' m m' o z h k e l = absurd (false≢true (z refl))
stepped_rises false false false false false b b' u u' m m' o z h k e l = k

-- step values lie from 0 to 1
pub step_le : (c : Chain) (ph : Phase) → Starts c ph → (k s : ℕ) → s < c.states → step_top c ph k s ≤ divisor c ph.whole k
unfolding step_top divisor
step_le c ph h zero s l = h s l
step_le c ph h (suc k) s l =
    stepped_le (eqb (top_rate c) 0) (ph.one s) (ph.nil s) (step_top c ph k s) (divisor c ph.whole k) (moved c (step_top c ph k) s)
    (top_rate c) (step_le c ph h k s l) (moved_le c (step_top c ph k) (divisor c ph.whole k) s (step_le c ph h k) l)

-- step values rise with the phase
pub step_rises : (c : Chain) (ph ph' : Phase) → Starts c ph → PhaseUnder c ph ph' → (k s : ℕ) → s < c.states → step_top c ph k s ≤ step_top c ph' k s
unfolding step_top
step_rises c ph ph' h u zero s l = u.starts s l
step_rises c ph ph' h u (suc k) s l =
    stepped_rises (eqb (top_rate c) 0) (ph.one s) (ph.nil s) (ph'.one s) (ph'.nil s) (step_top c ph k s) (step_top c ph' k s)
    (divisor c ph.whole (suc k)) (divisor c ph'.whole (suc k)) (moved c (step_top c ph k) s) (moved c (step_top c ph' k) s) (u.ones s l) (u.nils s l)
    (step_rises c ph ph' h u k s l) (moved_rises c (step_top c ph k) (step_top c ph' k) s (step_rises c ph ph' h u k) l)
    (ap (λ (w : ℕ). divisor c w (suc k)) u.wholes) (step_le c ph h (suc k) s l)
