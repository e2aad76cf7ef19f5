-- The greatest depth that the width is shown for, and what is asked of weights that halve. That the two ends of a phase are at most 2 × D apart is
-- in proofs/Width. Assumes nothing.
use Prim.Native.Nat.{ℕ, suc, ◌+◌, ◌*◌, ◌≤◌}
use Rattle.bounds.specs.Weight.{Middle}

-- how deep the sums are taken at most, so that they fit 64 bits
abbrev pub most_depth : ℕ
most_depth = 1023

-- a load whose weights are halved from r on, not too deep
pub record Halved (a b m r : ℕ) : Type 0 where
  pub middle : Middle a b m
  pub early : m ≤ r
  pub halves : 2 * a ≤ suc r * b
  pub small : r + 40 ≤ most_depth
