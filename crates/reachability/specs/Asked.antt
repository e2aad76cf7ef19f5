-- What the parts of the search ask and leave. Assumes nothing.
use Rattle.std.specs.Prelude.{◌≡◌, Bool, true, cond, List, ℕ, ◌+◌, ◌-◌, ◌≤◌, ◌<◌, length, set, eqb}
use Rattle.csl.specs.Limits.{most_states}
use Rattle.csl.specs.Chain.{Chain, sum_to}
use Rattle.csl.specs.Verdicts.{Decided, as_no}
use Rattle.csl.specs.Graph.{Leads}
use Rattle.numbers.specs.Filled.{at}
use Rattle.verdicts.specs.Byte.{verdict_at}
use Rattle.rate_matrix.specs.Packed.{word_to}
use Rattle.incoming_moves.specs.Shown.{IndexShows}
use Rattle.vectors.specs.Places.{values_from, owns_from, index_end_at, vector_length}
use Rattle.reachability.specs.Standing.{Stands, Went}

-- where the operands hold, by their two rows
abbrev pub first_holds : List ℕ → ℕ → Bool
first_holds rows s = as_no (verdict_at (at rows s))

abbrev pub second_holds : List ℕ → ℕ → ℕ → Bool
second_holds rows n s = as_no (verdict_at (at rows (n + s)))

-- State s, if it is found, is to be reached; then the queue has a place for it.
pub record ReachAsked (found : Bool) (l rows : List ℕ) (n s tail : ℕ) : Type 0 where
  pub states : n ≤ most_states
  pub here : s < n
  pub held : n + n ≤ length rows
  pub long : values_from n + n ≤ length l
  pub room : found ≡ true → tail < n

-- it is queued, and its bytes say that it is reached
unfoldable pub rows_reached : Bool → List ℕ → (n s : ℕ) → List ℕ
rows_reached found rows n s = cond found (set (set rows s 0) (n + s) 1) rows

unfoldable pub words_reached : Bool → List ℕ → (n s tail : ℕ) → List ℕ
words_reached found l n s tail = cond found (set l (values_from n + tail) s) l

unfoldable pub tail_reached : Bool → ℕ → ℕ
tail_reached found tail = cond found (tail + 1) tail

-- two rows of verdicts that are decided, and words for the queue
pub record SeedAsked (l rows : List ℕ) (n : ℕ) : Type 0 where
  pub states : n ≤ most_states
  pub long : values_from n + n ≤ length l
  pub held : n + n ≤ length rows
  pub decided : (k : ℕ) → k < n + n → Decided (verdict_at (at rows k))

-- the states of the second operand are reached and queued
pub record Seeded (c : Chain) (n : ℕ) (l₀ rows₀ l rows : List ℕ) (tail : ℕ) : Type 0 where
  pub stands : Stands c (first_holds rows₀) (second_holds rows₀ n) n n l rows tail
  pub went : Went n l₀ rows₀ 0 l rows tail

-- and are so whatever the moves are
pub record SeedLeaves (n : ℕ) (l₀ rows₀ l rows : List ℕ) (tail : ℕ) : Type 0 where
  pub seeded : (c : Chain) → Seeded c n l₀ rows₀ l rows tail

-- A state s is to be reached if its first byte is 1, and else to be left; the queue has a place for it.
pub record TakeAsked (l rows : List ℕ) (n s tail : ℕ) : Type 0 where
  pub states : n ≤ most_states
  pub here : s < n
  pub held : n + n ≤ length rows
  pub long : values_from n + n ≤ length l
  pub room : tail < n
  pub apart : at rows s + at rows (n + s) ≤ 1

-- its first byte is moved onto its second
unfoldable pub rows_taken : List ℕ → (n s : ℕ) → List ℕ
rows_taken rows n s = set (set rows s 0) (n + s) (at rows s + at rows (n + s))

-- n states, each with its first byte
pub record CountAsked (rows : List ℕ) (n : ℕ) : Type 0 where
  pub states : n ≤ most_states
  pub held : n ≤ length rows
  pub bits : (s : ℕ) → s < n → at rows s ≤ 1

-- The states that words of the index name are to be reached, where the first operand holds; from there states lead to the second operand. There are
-- `most` states that are queued or yet to be reached.
pub record Enters (c : Chain) (x y : ℕ → Bool) (index l rows : List ℕ) (n begin end tail most : ℕ) : Type 0 where
  pub stands : Stands c x y n n l rows tail
  pub total : tail + sum_to (at rows) n ≡ most
  pub part : begin ≤ end
  pub within : end ≤ length index
  pub sources : (k : ℕ) → k < length index → word_to (at index k) < n
  pub leads : (k : ℕ) → begin ≤ k → k < end → x (word_to (at index k)) ≡ true → Leads c x y (word_to (at index k))

-- and are so for some chain and operands
pub record EnterAsked (index l rows : List ℕ) (n begin end tail most : ℕ) : Type 0 where
  pub c : Chain
  pub x : ℕ → Bool
  pub y : ℕ → Bool
  pub enters : Enters c x y index l rows n begin end tail most

-- they are reached, so that none of them is left
pub record Entered (c : Chain) (x y : ℕ → Bool) (index : List ℕ) (n begin end most : ℕ) (l₀ rows₀ : List ℕ) (tail₀ : ℕ) (l rows : List ℕ) (tail : ℕ)
    : Type 0 where
  pub stands : Stands c x y n n l rows tail
  pub total : tail + sum_to (at rows) n ≡ most
  pub went : Went n l₀ rows₀ tail₀ l rows tail
  pub reached : (k : ℕ) → begin ≤ k → k < end → at rows (word_to (at index k)) ≡ 0

-- for whatever chain and operands they were to be
pub record EnterLeaves (index : List ℕ) (n begin end most : ℕ) (l₀ rows₀ : List ℕ) (tail₀ : ℕ) (l rows : List ℕ) (tail : ℕ) : Type 0 where
  pub entered : (c : Chain) (x y : ℕ → Bool) → Enters c x y index l₀ rows₀ n begin end tail₀ most
      → Entered c x y index n begin end most l₀ rows₀ tail₀ l rows tail

-- where the row of the moves that enter t begins: where that of the state before it ends
unfoldable pub row_begin : List ℕ → (n t : ℕ) → ℕ
row_begin l n t = cond (eqb t 0) 0 (index_end_at l n (t - 1))

-- a state, whose row is looked up
pub record RowAsked (l : List ℕ) (n t : ℕ) : Type 0 where
  pub states : n ≤ most_states
  pub here : t < n
  pub long : vector_length n ≤ length l

-- the search is to go on from the queued states, against the moves that the index shows
pub record Spreads (c : Chain) (x y : ℕ → Bool) (index l rows : List ℕ) (n tail most : ℕ) : Type 0 where
  pub long : vector_length n ≤ length l
  pub shows : IndexShows c index l (owns_from n) n
  pub stands : Stands c x y n n l rows tail
  pub total : tail + sum_to (at rows) n ≡ most

-- for some chain and operands
pub record SpreadAsked (index l rows : List ℕ) (n tail most : ℕ) : Type 0 where
  pub c : Chain
  pub x : ℕ → Bool
  pub y : ℕ → Bool
  pub spreads : Spreads c x y index l rows n tail most

-- it is done: a state of the first operand that moves to a reached state is reached
pub record Spread (c : Chain) (x y : ℕ → Bool) (n : ℕ) (l₀ rows₀ : List ℕ) (tail₀ : ℕ) (l rows : List ℕ) (tail : ℕ) : Type 0 where
  pub stands : Stands c x y n n l rows tail
  pub went : Went n l₀ rows₀ tail₀ l rows tail
  pub closed : (s t : ℕ) → s < n → t < n → x s ≡ true → 0 < c.rate s t → at rows (n + t) ≡ 1 → at rows (n + s) ≡ 1

-- for whatever chain and operands it was to be, and wherever the queue then ends
pub record SpreadLeaves (index : List ℕ) (n most : ℕ) (l₀ rows₀ : List ℕ) (tail₀ : ℕ) (l rows : List ℕ) : Type 0 where
  pub tail : ℕ
  pub spread : (c : Chain) (x y : ℕ → Bool) → Spreads c x y index l₀ rows₀ n tail₀ most → Spread c x y n l₀ rows₀ tail₀ l rows tail
