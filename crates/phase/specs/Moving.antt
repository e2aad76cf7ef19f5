-- What a step of the values asks and promises. Assumes nothing.
use Rattle.std.specs.Prelude.{◌≡◌, false, List, ℕ, suc, ◌+◌, ◌-◌, ◌^◌, ◌≤◌, ◌<◌, length}
use Rattle.csl.specs.Limits.{most_states}
use Rattle.csl.specs.Chain.{sum_to}
use Rattle.numbers.specs.Filled.{Filled}
use Rattle.bounds.specs.Unit.{one}
use Rattle.rate_matrix.specs.Words.{to_of, exit_of, row_of, pull}
use Rattle.vectors.specs.Places.{next_from, value_at, stay_at, held_at}
use Rattle.vectors.specs.Prepared.{Rates}
use Rattle.phase.specs.Value.{next}

-- a row to be added up
pub record RowAsked (mv l : List ℕ) (n begin end x : ℕ) : Type 0 where
  pub states : n ≤ most_states
  pub targets : (j : ℕ) → j < length mv → to_of mv j < n
  pub room : next_from n ≤ length l
  pub part : begin ≤ end
  pub within : end ≤ length mv
  pub fits : x + sum_to (pull mv (value_at l n)) end < 2 ^ 64 + sum_to (pull mv (value_at l n)) begin

pub record RowSummed (mv l : List ℕ) (n begin end x r : ℕ) : Type 0 where
  pub is : r + sum_to (pull mv (value_at l n)) begin ≡ x + sum_to (pull mv (value_at l n)) end

-- values that are to be moved: each at most 1, and what stays put is of its exit rate where it is not held
pub record Moving (mv l : List ℕ) (n q : ℕ) : Type 0 where
  pub rates : Rates mv l n q
  pub some : 0 < q
  pub values : (s : ℕ) → s < n → value_at l n s ≤ one
  pub stays : (s : ℕ) → s < n → held_at l n q s ≡ false → stay_at l n s ≡ q - exit_of mv (length mv) s

-- that of state s is, whose row is that from begin to end
pub record StateAsked (mv l : List ℕ) (n q s begin end : ℕ) : Type 0 where
  pub all : Moving mv l n q
  pub here : s < n
  pub begins : begin ≡ row_of mv (length mv) s
  pub ends : end ≡ row_of mv (length mv) (suc s)

-- the values one step on stand in their column, and all other words are as they were
abbrev pub Moved : (mv : List ℕ) (n q : ℕ) → (old new : List ℕ) → Type 0
Moved mv n q old new = Filled (next mv (length mv) q (held_at old n q) (value_at old n)) (next_from n) n old new
