-- The rates of move lines, added up for each state: how the code carries them, in 32 bits. What the sums come to is `Tallied`. Assumes nothing.
use Rattle.std.specs.Prelude.{◌≡◌, ℕ, ◌+◌, ◌-◌, ◌%◌, ◌≤◌, min, cond, List, length, set, ltb, eqb}
use Rattle.csl.specs.Limits.{most_states, most_rate}
use Rattle.numbers.specs.Filled.{at}

-- one above the limit, which stands for every sum that is too high; and what is so carried of a sum
abbrev pub too_high : ℕ
too_high = most_rate + 1

abbrev pub carried : ℕ → ℕ
carried sum = min sum too_high

-- the place of a state's sum: its number, where the states are not too many
abbrev pub place_of : ℕ → ℕ
place_of s = s % most_states

-- the sums with a rate more at one state; and those of the rates to the own state with a line more
abbrev pub rate_added : List ℕ → (s rate : ℕ) → List ℕ
rate_added sums s rate = set sums (place_of s) (carried (at sums (place_of s) + rate))

abbrev pub own_added : List ℕ → (from to rate : ℕ) → List ℕ
own_added owns from to rate = cond (eqb from to) (rate_added owns from rate) owns

-- totals are carried up to `too_high`, and what goes to the own state is a part of them
pub record Carried (totals owns : List ℕ) : Type 0 where
  pub total_many : length totals ≡ most_states
  pub own_many : length owns ≡ most_states
  pub most : (s : ℕ) → at totals s ≤ too_high
  pub part : (s : ℕ) → at owns s ≤ at totals s

-- what of a total goes to other states; too high where the total is
abbrev pub away_of : (total own : ℕ) → ℕ
away_of total own = cond (ltb most_rate total) too_high (total - own)
