-- A sheet: what a moves text and a labels text say together. What is meant by a job goes on from here, never from the texts. Assumes nothing.
use Rattle.std.specs.Prelude.{ℕ, Bool, List}
use Rattle.csl.specs.Text.{Text}
use Rattle.csl.specs.Labels.{names_of, states_of, mark_at}
use Rattle.csl.specs.Moves.{Move, moves_of}

-- how many states; the label names; whether the label at a place among them is marked at a state; the moves, line by line
pub record Sheet : Type 0 where
  pub states : ℕ
  pub names : List Text
  pub marked : ℕ → ℕ → Bool
  pub moves : List Move

-- the sheet of two texts
abbrev pub sheet_of : Text → Text → Sheet
sheet_of moves labels = record { states = states_of labels; names = names_of labels; marked = mark_at labels; moves = moves_of moves }
