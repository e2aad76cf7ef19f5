-- How the search stands: which states are reached, and which of them are queued. The first byte of a state is 1 where the first operand holds and
-- the state is not reached yet, its second byte is 1 where it is reached, and the queue stands in the column of the values. Assumes nothing.
use Rattle.std.specs.Prelude.{◌≡◌, Bool, true, List, ℕ, ◌+◌, ◌≤◌, ◌<◌, length}
use Rattle.csl.specs.Limits.{most_states}
use Rattle.csl.specs.Chain.{Chain, sum_to}
use Rattle.csl.specs.Graph.{Leads}
use Rattle.numbers.specs.Filled.{at}
use Rattle.vectors.specs.Places.{values_from, value_at}

-- state s stands in the queue, which ends at tail
pub record Queued (l : List ℕ) (n tail s : ℕ) : Type 0 where
  pub place : ℕ
  pub early : place < tail
  pub is : value_at l n place ≡ s

-- The search stands soundly, where x and y say where the operands hold: what is reached leads to a state of the second operand, and is queued if it
-- is among the first m states; of these none is both reached and yet to be reached.
pub record Stands (c : Chain) (x y : ℕ → Bool) (n m : ℕ) (l rows : List ℕ) (tail : ℕ) : Type 0 where
  pub states : n ≤ most_states
  pub held : n + n ≤ length rows
  pub long : values_from n + n ≤ length l
  pub bits : (k : ℕ) → k < n + n → at rows k ≤ 1
  -- a first byte of 1 says that the first operand holds, and where it holds and the byte is 0 the state is reached
  pub open_first : (s : ℕ) → s < n → at rows s ≡ 1 → x s ≡ true
  pub shut_reached : (s : ℕ) → s < n → x s ≡ true → at rows s ≡ 0 → at rows (n + s) ≡ 1
  pub sound : (s : ℕ) → s < n → at rows (n + s) ≡ 1 → Leads c x y s
  pub second : (s : ℕ) → s < n → y s ≡ true → at rows (n + s) ≡ 1
  pub apart : (s : ℕ) → s < m → s < n → at rows s ≡ 1 → at rows (n + s) ≡ 0
  pub queued : (s : ℕ) → s < m → s < n → at rows (n + s) ≡ 1 → Queued l n tail s
  pub queue_states : (i : ℕ) → i < tail → value_at l n i < n
  pub queue_reached : (i : ℕ) → i < tail → at rows (n + value_at l n i) ≡ 1
  -- each of the m states is at most once in the queue or to be put there
  pub few : tail + sum_to (at rows) m ≤ m

-- The search has gone on, with the queue's end from tail₀ to tail: what was queued is, no first byte has become 1 again, and all but the queue's
-- column and the two rows is as it was.
pub record Went (n : ℕ) (l₀ rows₀ : List ℕ) (tail₀ : ℕ) (l rows : List ℕ) (tail : ℕ) : Type 0 where
  pub words : length l ≡ length l₀
  pub bytes : length rows ≡ length rows₀
  pub later : tail₀ ≤ tail
  pub queue : (i : ℕ) → i < tail₀ → value_at l n i ≡ value_at l₀ n i
  pub else : (k : ℕ) → (values_from n ≤ k → k < values_from n + n → ⊥) → at l k ≡ at l₀ k
  pub shut : (s : ℕ) → s < n → at rows₀ s ≡ 0 → at rows s ≡ 0
  pub beyond : (k : ℕ) → n + n ≤ k → at rows k ≡ at rows₀ k
