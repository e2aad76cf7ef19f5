-- What the beginning of a phase and a step of it ask and promise. Assumes nothing.
use Rattle.std.specs.Prelude.{◌≡◌, List, ℕ, ◌+◌, ◌*◌, ◌^◌, ◌≤◌, ◌<◌, length}
use Rattle.csl.specs.Limits.{most_states}
use Rattle.bounds.specs.Weight.{peak}
use Rattle.bounds.specs.Unit.{one, part, most_part}
use Rattle.weights.specs.Asked.{most_steps}
use Rattle.vectors.specs.Places.{at, values_from, stays_from, weights_from, total_at, number_at, vector_length, value_at, next_at, sum_at, held_at, weight_at, number_in}
use Rattle.phase.specs.Value.{next}
use Rattle.phase.specs.Moving.{Moving}

-- values to be taken over and added to the sums
pub record AdvanceAsked (l : List ℕ) (n w : ℕ) : Type 0 where
  pub states : n ≤ most_states
  pub room : stays_from n ≤ length l
  pub weight : w ≤ peak
  pub values : (i : ℕ) → i < n → next_at l n i ≤ one
  pub fits : (i : ℕ) → i < n → sum_at l n i + part w (next_at l n i) < 2 ^ 64

pub record Advanced (n w : ℕ) (l₀ l : List ℕ) : Type 0 where
  pub same : length l ≡ length l₀
  pub values : (i : ℕ) → i < n → value_at l n i ≡ next_at l₀ n i
  pub next : (i : ℕ) → i < n → next_at l n i ≡ next_at l₀ n i
  pub sums : (i : ℕ) → i < n → sum_at l n i ≡ sum_at l₀ n i + part w (next_at l₀ n i)
  pub before : (k : ℕ) → k < values_from n → at l k ≡ at l₀ k
  pub after : (k : ℕ) → stays_from n ≤ k → at l k ≡ at l₀ k

-- Words of a phase at step k: what its values, its sums and its step number are; all else is as it was.
pub record StandsAt (n k : ℕ) (value sum : ℕ → ℕ) (old new : List ℕ) : Type 0 where
  pub same : length new ≡ length old
  pub values : (s : ℕ) → s < n → value_at new n s ≡ value s
  pub next : (s : ℕ) → s < n → next_at new n s ≡ value s
  pub sums : (s : ℕ) → s < n → sum_at new n s ≡ sum s
  pub number : number_in new n ≡ k
  pub before : (i : ℕ) → i < values_from n → at new i ≡ at old i
  pub after : (i : ℕ) → stays_from n ≤ i → (i ≡ number_at n → ⊥) → at new i ≡ at old i

-- a start vector in the column of the values one step on
pub record BeginAsked (l : List ℕ) (n : ℕ) : Type 0 where
  pub states : n ≤ most_states
  pub long : vector_length n ≤ length l
  pub weight : at l (weights_from n) ≤ peak
  pub values : (s : ℕ) → s < n → next_at l n s ≤ one

-- it is step 0
abbrev pub Begun : (n : ℕ) → (old new : List ℕ) → Type 0
Begun n old new = StandsAt n 0 (next_at old n) (λ s. part (at old (weights_from n)) (next_at old n s)) old new

-- words that stand at a step of a phase, for which one step more has room
pub record StepAsked (mv l : List ℕ) (n q : ℕ) : Type 0 where
  pub moving : Moving mv l n q
  pub limit : number_in l n + 1 < most_steps
  pub room : weights_from n + (number_in l n + 1) < total_at n
  pub weight : weight_at l n (number_in l n + 1) ≤ peak
  pub sums : (s : ℕ) → s < n → sum_at l n s ≤ (number_in l n + 1) * most_part

-- the values that stand one step on
abbrev pub next_of : (mv l : List ℕ) (n q : ℕ) → ℕ → ℕ
next_of mv l n q = next mv (length mv) q (held_at l n q) (value_at l n)

-- they stand at the next one
abbrev pub Stepped : (mv : List ℕ) (n q : ℕ) → (old new : List ℕ) → Type 0
Stepped mv n q old new =
    StandsAt n (number_in old n + 1) (next_of mv old n q) (λ s. sum_at old n s + part (weight_at old n (number_in old n + 1)) (next_of mv old n q s)) old new
