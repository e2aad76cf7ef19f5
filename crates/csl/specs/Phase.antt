-- Step values, weights and quotients of a phase. Assumes nothing.
use Rattle.std.specs.Prelude.{ℕ, zero, suc, ◌+◌, ◌*◌, ◌-◌, Bool, true, false, cond, eqb}
use Rattle.csl.specs.Fraction.{Fraction, frac, times, over, sum_up}
use Rattle.csl.specs.Chain.{Chain, sum_to, away, exit_rate, top_rate}

-- What the steps start from and hold to: each state's value at step 0, in parts of `whole`; the states whose value is 1 at every later
-- step; those where it is 0.
pub record Phase : Type 0 where
  pub whole : ℕ
  pub start : ℕ → ℕ
  pub one : ℕ → Bool
  pub nil : ℕ → Bool

abbrev pub bit : Bool → ℕ
bit b = cond b 1 0

-- "take the rate to each other state times that state's value one step earlier, add these up, add (q − own exit rate) times the own
-- earlier value": v are the values one step earlier
unfoldable pub moved : Chain → (ℕ → ℕ) → ℕ → ℕ
moved c v s = sum_to (λ t. away c s t * v t) c.states + (top_rate c - exit_rate c s) * v s

-- "and divide by q": the divisor of the values at step k. "With q = 0 step values never change", and nothing is divided.
unfoldable pub divisor : Chain → ℕ → ℕ → ℕ
divisor c whole zero = whole
divisor c whole (suc k) = divisor c whole k * cond (eqb (top_rate c) 0) 1 (top_rate c)

-- which rule a later step follows: q = 0; value 1; value 0; moved
abbrev pub stepped : Bool → Bool → Bool → ℕ → ℕ → ℕ → ℕ
stepped true one nil before whole sum = before
stepped false true nil before whole sum = whole
stepped false false true before whole sum = 0
stepped false false false before whole sum = sum

unfoldable pub step_top : Chain → Phase → ℕ → ℕ → ℕ
step_top c ph zero s = ph.start s
step_top c ph (suc k) s =
    stepped (eqb (top_rate c) 0) (ph.one s) (ph.nil s) (step_top c ph k s) (divisor c ph.whole (suc k)) (moved c (step_top c ph k) s)

-- "Each state has a step value at each step."
abbrev pub step_value : Chain → Phase → ℕ → ℕ → Fraction
step_value c ph s k = frac (step_top c ph k s) (divisor c ph.whole k)

-- "The weight of step 0 is 1, also for load 0. The weight of each later step k is the one before, times L, divided by k."
unfoldable pub weight : Fraction → ℕ → Fraction
weight l zero = frac 1 1
weight l (suc k) = over (times (weight l k) l) (frac (suc k) 1)

-- "The quotient of a state at depth N is the sum of weight × step value over steps 0 to N, divided by the sum of those weights."
unfoldable pub quotient : Fraction → (ℕ → Fraction) → ℕ → Fraction
quotient l v n = over (sum_up (λ k. times (weight l k) (v k)) n) (sum_up (weight l) n)
