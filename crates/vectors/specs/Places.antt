-- Where each thing stands in the lent vector words, with n states: "vector words (64 bits) of 10 × n + 512". Assumes nothing.
use Rattle.std.specs.Prelude.{◌≡◌, refl, Bool, List, ℕ, ◌+◌, ◌*◌, ◌≤◌, ◌<◌, ltb, length}
use Rattle.csl.specs.Lent.{needed}
pub use Rattle.numbers.specs.Filled.{at}
use Rattle.rate_matrix.specs.Halves.{own_rate, row_end}
use Rattle.vectors.specs.declared.TheConstants.{VALUES, NEXT, SUMS, STAYS, EXITS, ENDS, OWNS, WEIGHTS}

-- the two ends of every state: the lower ones from 0 on, then the upper ones
abbrev pub uppers_from : ℕ → ℕ
uppers_from n = n

-- the values of a phase, and those one step on
abbrev pub values_from : ℕ → ℕ
values_from n = 2 * n

abbrev pub next_from : ℕ → ℕ
next_from n = 3 * n

-- the sums of weight times value
abbrev pub sums_from : ℕ → ℕ
sums_from n = 4 * n

-- what stays put of q in a step; more than q where a state's value is held
abbrev pub stays_from : ℕ → ℕ
stays_from n = 5 * n

-- the exit rates, where the rows of move words end, and the rates to the own state with, above them, where the rows of the index end
abbrev pub exits_from : ℕ → ℕ
exits_from n = 6 * n

abbrev pub ends_from : ℕ → ℕ
ends_from n = 7 * n

abbrev pub owns_from : ℕ → ℕ
owns_from n = 8 * n

-- the weights of the steps, their total, and the number of the step
abbrev pub weights_from : ℕ → ℕ
weights_from n = 9 * n

abbrev pub total_at : ℕ → ℕ
total_at n = 9 * n + 510

abbrev pub number_at : ℕ → ℕ
number_at n = 9 * n + 511

-- the marks of the labels, to the end
abbrev pub marks_from : ℕ → ℕ
marks_from n = 9 * n + 512

abbrev pub vector_length : ℕ → ℕ
vector_length n = (needed n 0 0).vectors

-- what stands there
abbrev pub value_at : List ℕ → (n : ℕ) → ℕ → ℕ
value_at l n s = at l (values_from n + s)

abbrev pub next_at : List ℕ → (n : ℕ) → ℕ → ℕ
next_at l n s = at l (next_from n + s)

abbrev pub sum_at : List ℕ → (n : ℕ) → ℕ → ℕ
sum_at l n s = at l (sums_from n + s)

abbrev pub stay_at : List ℕ → (n : ℕ) → ℕ → ℕ
stay_at l n s = at l (stays_from n + s)

abbrev pub exit_at : List ℕ → (n : ℕ) → ℕ → ℕ
exit_at l n s = at l (exits_from n + s)

abbrev pub end_at : List ℕ → (n : ℕ) → ℕ → ℕ
end_at l n s = at l (ends_from n + s)

abbrev pub own_at : List ℕ → (n : ℕ) → ℕ → ℕ
own_at l n s = own_rate (at l (owns_from n + s))

-- in the same word: where the row of the moves that enter the state ends in their index
abbrev pub index_end_at : List ℕ → (n : ℕ) → ℕ → ℕ
index_end_at l n s = row_end (at l (owns_from n + s))

abbrev pub weight_at : List ℕ → (n : ℕ) → ℕ → ℕ
weight_at l n k = at l (weights_from n + k)

abbrev pub total_in : List ℕ → ℕ → ℕ
total_in l n = at l (total_at n)

abbrev pub number_in : List ℕ → ℕ → ℕ
number_in l n = at l (number_at n)

-- a state whose value is held
abbrev pub held_at : List ℕ → (n q : ℕ) → ℕ → Bool
held_at l n q s = ltb q (stay_at l n s)

-- The two ends of each state, the lower ones and the upper ones in their places; all other words are as they were.
pub record EndsStored (lower upper : ℕ → ℕ) (n : ℕ) (old new : List ℕ) : Type 0 where
  pub same : length new ≡ length old
  pub lowers : (s : ℕ) → s < n → at new s ≡ lower s
  pub uppers : (s : ℕ) → s < n → at new (uppers_from n + s) ≡ upper s
  pub after : (k : ℕ) → values_from n ≤ k → at new k ≡ at old k

-- the columns of the code begin so
pub record Placed (n : ℕ) : Type 0 where
  pub values : VALUES * n ≡ values_from n
  pub next : NEXT * n ≡ next_from n
  pub sums : SUMS * n ≡ sums_from n
  pub stays : STAYS * n ≡ stays_from n
  pub exits : EXITS * n ≡ exits_from n
  pub ends : ENDS * n ≡ ends_from n
  pub owns : OWNS * n ≡ owns_from n
  pub weights : WEIGHTS * n ≡ weights_from n

pub all_placed : (n : ℕ) → Placed n
all_placed n =
    record { values = refl; next = refl; sums = refl; stays = refl; exits = refl; ends = refl; owns = refl; weights = refl }
