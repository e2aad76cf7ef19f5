-- What laying the moves of a sheet asks, and what is laid then. Assumes nothing.
use Rattle.std.specs.Prelude.{◌≡◌, List, ℕ, ◌+◌, ◌≤◌, ◌<◌, length}
use Rattle.csl.specs.Text.{Text}
use Rattle.csl.specs.Labels.{states_of}
use Rattle.csl.specs.Moves.{Move, moves_of, rate_in}
use Rattle.accepted.specs.Sheet.{SheetPassed}
use Rattle.clean_copy.specs.Laid.{Laid, laid_rate}

-- the m moves of a text that passed with labels of n states are to be laid, in words that have room for them twice, and columns
pub record LayAsked (moves : Text) (m n : ℕ) (words columns : List ℕ) : Type 0 where
  pub labels : Text
  pub passed : SheetPassed moves labels
  pub count : m ≡ length (moves_of moves)
  pub states : n ≡ states_of labels
  pub room : m + m ≤ length words
  pub long : n + n + n ≤ length columns

-- the rates that are laid are those of the moves
pub record LaidFor (ms : List Move) (n : ℕ) (rows columns : List ℕ) : Type 0 where
  pub laid : Laid rows columns n
  pub rates : (s t : ℕ) → s < n → t < n → laid_rate rows columns n s t ≡ rate_in ms s t
