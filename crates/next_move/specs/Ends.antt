-- The ends of a next move, by the words of its state's row, the exit rates and the operand's row. Assumes nothing.
use Rattle.std.specs.Prelude.{◌≡◌, Bool, true, false, List, ℕ, suc, ◌+◌, ◌*◌, ◌≤◌, ◌<◌, length}
use Rattle.csl.specs.Limits.{most_rate}
use Rattle.csl.specs.Fraction.{in_billionths, round_down, round_up}
use Rattle.csl.specs.Next.{divided_by}
use Rattle.rate_matrix.specs.Words.{exit_of, row_of, flow}
use Rattle.vectors.specs.Places.{own_at}
use Rattle.vectors.specs.Prepared.{Rates}
use Rattle.next_move.specs.Row.{held_in}

-- "Lower is that fraction rounded down to billionths, upper rounded up"
abbrev pub down_of : ℕ → ℕ → ℕ
down_of entering exit = round_down (in_billionths (divided_by entering exit))

abbrev pub up_of : ℕ → ℕ → ℕ
up_of entering exit = round_up (in_billionths (divided_by entering exit))

-- the exit rate of s, its rate to the own state counted
abbrev pub exit_in : (mv l : List ℕ) (n : ℕ) → ℕ → ℕ
exit_in mv l n s = exit_of mv (length mv) s + own_at l n s

-- what of it enters states where the operand holds
abbrev pub entering_in : (b : Bool) (mv l operand : List ℕ) (n : ℕ) → ℕ → ℕ
entering_in b mv l operand n s = flow mv (length mv) (held_in b operand) s + own_at l n s * held_in b operand s

-- the two ends of s
abbrev pub lower_at : (mv l operand : List ℕ) (n : ℕ) → ℕ → ℕ
lower_at mv l operand n s = down_of (entering_in false mv l operand n s) (exit_in mv l n s)

abbrev pub upper_at : (mv l operand : List ℕ) (n : ℕ) → ℕ → ℕ
upper_at mv l operand n s = up_of (entering_in true mv l operand n s) (exit_in mv l n s)

-- the words are prepared, no state is left too fast, and the operand has a row
pub record NextAsked (mv l operand : List ℕ) (n : ℕ) : Type 0 where
  pub q : ℕ
  pub rates : Rates mv l n q
  pub slow : (s : ℕ) → s < n → exit_in mv l n s ≤ most_rate
  pub room : n ≤ length operand

-- the ends of state s are to be found, whose row is that from begin to end
pub record StateAsked (mv l operand : List ℕ) (n s begin end : ℕ) : Type 0 where
  pub all : NextAsked mv l operand n
  pub here : s < n
  pub begins : begin ≡ row_of mv (length mv) s
  pub ends : end ≡ row_of mv (length mv) (suc s)
