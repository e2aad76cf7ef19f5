-- What the ends from the sums of a phase ask, and what they are. Assumes nothing.
use Rattle.std.specs.Prelude.{List, ℕ, ◌+◌, ◌*◌, ◌-◌, ◌/◌, ◌^◌, ◌≤◌, ◌<◌, length}
use Rattle.csl.specs.Limits.{most_states, billion}
use Rattle.csl.specs.Chain.{sum_to}
use Rattle.bounds.specs.Unit.{one, scale, grain, part}
use Rattle.vectors.specs.Places.{vector_length, sum_at, weight_at, total_in}
use Rattle.phase.specs.Load.{LightAsked}

-- what values of 0 would leave is to be summed, where values lack e units at step 0
pub record GatherAsked (l : List ℕ) (n last e : ℕ) : Type 0 where
  pub light : LightAsked l n last
  pub error : e ≤ one

abbrev pub whole_of : List ℕ → (n last e : ℕ) → ℕ
whole_of l n last e = sum_to (λ k. part (weight_at l n k) (one - (e + k))) (last + 1) - (last + 1)

-- sums to be put over the total
pub record LowerAsked (l : List ℕ) (n : ℕ) : Type 0 where
  pub states : n ≤ most_states
  pub long : vector_length n ≤ length l
  pub some : 0 < total_in l n
  pub divisor : total_in l n < 2 ^ 52
  pub sums : (s : ℕ) → s < n → sum_at l n s * grain ≤ total_in l n * one

-- the end that each sum gives
abbrev pub lower_at : List ℕ → (n : ℕ) → ℕ → ℕ
lower_at l n s = sum_at l n s * scale / total_in l n

-- what a sum leaves of the whole is to be put over the total
pub record OverAsked (total whole : ℕ) : Type 0 where
  pub some : 0 < total
  pub divisor : total < 2 ^ 52
  pub most : whole * grain ≤ total * one

-- the end that it gives
abbrev pub upper_from : (sum total whole : ℕ) → ℕ
upper_from sum total whole = billion - (whole - sum) * scale / total

-- such ends are to be made of all sums
pub record UpperAsked (l : List ℕ) (n last e : ℕ) : Type 0 where
  pub gather : GatherAsked l n last e
  pub over : OverAsked (total_in l n) (whole_of l n last e)

abbrev pub upper_at : List ℕ → (n last e : ℕ) → ℕ → ℕ
upper_at l n last e s = upper_from (sum_at l n s) (total_in l n) (whole_of l n last e)
