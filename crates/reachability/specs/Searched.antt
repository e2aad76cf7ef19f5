-- What the whole search asks, and what it leaves. Assumes nothing.
use Rattle.std.specs.Prelude.{◌≡◌, List, ℕ, ◌+◌, ◌≤◌, ◌<◌, length}
use Rattle.csl.specs.Limits.{most_states, most_moves}
use Rattle.csl.specs.Chain.{Chain}
use Rattle.csl.specs.Verdicts.{Decided, as_no}
use Rattle.csl.specs.Graph.{Leads, Tells}
use Rattle.numbers.specs.Filled.{at}
use Rattle.verdicts.specs.Byte.{verdict_at}
use Rattle.incoming_moves.specs.Shown.{IndexShows}
use Rattle.vectors.specs.Places.{values_from, owns_from, vector_length}

-- two rows of verdict bytes, the first operand's and the second's, without an undecided state; the index of a chain's moves, with the ends of its
-- rows in their column; and zeros in the column of the values
pub record SearchAsked (index l rows : List ℕ) (n : ℕ) : Type 0 where
  pub c : Chain
  pub states : n ≤ most_states
  pub few : length index ≤ most_moves
  pub long : vector_length n ≤ length l
  pub clear : (k : ℕ) → k < n → at l (values_from n + k) ≡ 0
  pub shows : IndexShows c index l (owns_from n) n
  pub held : n + n ≤ length rows
  pub decided : (k : ℕ) → k < n + n → Decided (verdict_at (at rows k))

-- the second row says of each state whether states of the first operand, this one included, lead along moves to a state of the second; what stands
-- behind the two rows is as it was
pub record Searched (c : Chain) (n : ℕ) (rows₀ rows : List ℕ) : Type 0 where
  pub same : length rows ≡ length rows₀
  pub tells : (s : ℕ) → s < n
      → Tells (verdict_at (at rows (n + s))) (Leads c (λ u. as_no (verdict_at (at rows₀ u))) (λ u. as_no (verdict_at (at rows₀ (n + u)))) s)
  pub beyond : (k : ℕ) → n + n ≤ k → at rows k ≡ at rows₀ k
