-- A step is linear: what lies below something at every state does so after a step. Assumes nothing.
use Rattle.std.specs.Prelude.{ℕ, zero, suc, ◌+◌, ◌*◌, ◌-◌, ◌≤◌, ◌<◌}
use Rattle.std.proofs.Common.{arith, sub-add_cancel}
use Rattle.numbers.specs.Hint.{le_times, eq_times}
use Rattle.csl.specs.Chain.{Chain, sum_to, away, exit_rate, top_rate}
use Rattle.csl.specs.Phase.{moved}
use Rattle.csl.proofs.Laws.Steps.{exit_le}

-- first the sum over the other states
row_shift : (a x y : ℕ → ℕ) (p r e n : ℕ) → ((k : ℕ) → k < n → p * x k ≤ r * y k + e)
    → p * sum_to (λ k. a k * x k) n ≤ r * sum_to (λ k. a k * y k) n + e * sum_to a n
unfolding sum_to
row_shift a x y p r e zero h = omega arith
row_shift a x y p r e (suc n) h =
    let i : (k : ℕ) → k < n → p * x k ≤ r * y k + e = λ k l. h k (omega arith) in
    omega (arith, row_shift a x y p r e n i, le_times (a n) (h n (omega arith)))

-- values that lie, times p, at most e above others times r
pub moved_shift : (c : Chain) (x y : ℕ → ℕ) (p r e s : ℕ) → ((t : ℕ) → t < c.states → p * x t ≤ r * y t + e) → s < c.states
    → p * moved c x s ≤ r * moved c y s + e * top_rate c
unfolding moved exit_rate
moved_shift c x y p r e s h l =
    omega (
      arith,
      row_shift (away c s) x y p r e c.states h,
      le_times (top_rate c - exit_rate c s) (h s l),
      eq_times e (sub-add_cancel (exit_le c s l)),
    )
