-- What the first m words of a list of packed moves say: exit rates, what flows into a state's sum, and
-- where each state's row ends. Assumes nothing.
use Rattle.std.specs.Prelude.{◌≡◌, cond, List, ℕ, ◌+◌, ◌-◌, ◌*◌, ◌≤◌, ◌<◌, take, drop, eqb, ltb}
use Rattle.std.proofs.Common.{◌∙◌, get_or-take, get_or-drop}
use Rattle.rate_matrix.specs.Packed.{word_from, word_to, word_rate}
use Rattle.csl.specs.Limits.{most_states, most_moves, most_rate}
use Rattle.csl.specs.Chain.{sum_to, greatest}
pub use Rattle.numbers.specs.Filled.{at}

-- the word at a place of a part
pub part_at : (mv : List ℕ) (begin end i : ℕ) → i < end - begin → at (take (end - begin) (drop begin mv)) i ≡ at mv (begin + i)
part_at mv begin end i h = get_or-take (end - begin) (drop begin mv) i 0 h ∙ get_or-drop begin mv i 0

-- the three numbers of word j
abbrev pub from_of : List ℕ → ℕ → ℕ
from_of mv j = word_from (at mv j)

abbrev pub to_of : List ℕ → ℕ → ℕ
to_of mv j = word_to (at mv j)

abbrev pub rate_of : List ℕ → ℕ → ℕ
rate_of mv j = word_rate (at mv j)

-- f j where word j leaves s, else 0
abbrev pub out_of : List ℕ → ℕ → (ℕ → ℕ) → ℕ → ℕ
out_of mv s f j = cond (eqb (from_of mv j) s) (f j) 0

-- f j where word j leaves a state before s, else 0
abbrev pub before_of : List ℕ → ℕ → (ℕ → ℕ) → ℕ → ℕ
before_of mv s f j = cond (ltb (from_of mv j) s) (f j) 0

-- the rate from s to g
unfoldable pub rate_between : List ℕ → ℕ → ℕ → ℕ → ℕ
rate_between mv m s g = sum_to (out_of mv s (λ j. cond (eqb (to_of mv j) g) (rate_of mv j) 0)) m

-- the exit rate of s
unfoldable pub exit_of : List ℕ → ℕ → ℕ → ℕ
exit_of mv m s = sum_to (out_of mv s (rate_of mv)) m

-- the greatest exit rate of n states
unfoldable pub top_of : List ℕ → ℕ → ℕ → ℕ
top_of mv m n = greatest (exit_of mv m) n

-- word j's rate times the value where it goes
abbrev pub pull : List ℕ → (ℕ → ℕ) → ℕ → ℕ
pull mv v j = rate_of mv j * v (to_of mv j)

-- the sum of the rates out of s, each times the value where it goes
unfoldable pub flow : List ℕ → ℕ → (ℕ → ℕ) → ℕ → ℕ
flow mv m v s = sum_to (out_of mv s (pull mv v)) m

-- how many words leave states before s: where the row of s begins, and that of the state before it ends
unfoldable pub row_of : List ℕ → ℕ → ℕ → ℕ
row_of mv m s = sum_to (before_of mv s (λ j. 1)) m

-- what is asked of the words, in whatever order they stand: they name states below n, and no state is left faster than the limit
pub record Lines (mv : List ℕ) (m n : ℕ) : Type 0 where
  pub states : n ≤ most_states
  pub few : m ≤ most_moves
  pub sources : (j : ℕ) → j < m → from_of mv j < n
  pub targets : (j : ℕ) → j < m → to_of mv j < n
  pub limit : (s : ℕ) → s < n → exit_of mv m s ≤ most_rate

-- they stand in rows by the state that they leave
abbrev pub InRows : List ℕ → ℕ → Type 0
InRows mv m = (i j : ℕ) → i ≤ j → j < m → from_of mv i ≤ from_of mv j
