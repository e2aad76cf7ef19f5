-- The words of the moves. Assumes nothing.
use Rattle.std.specs.Prelude.{◌≡◌, ℕ, ◌+◌, ◌≤◌, length}
use Rattle.csl.specs.Text.{Text}
use Rattle.csl.specs.Line.{line_feed}
use Rattle.csl.specs.Moves.{move_of, moves_of}
use Rattle.texts.specs.Span.{span_of}
use Rattle.texts.specs.LineAt.{line_at}
use Rattle.rate_matrix.specs.ByPlace.{move_at}
use Rattle.rate_matrix.specs.Packed.{packed_move}

-- the word of the j-th move of a text
abbrev pub move_word : Text → ℕ → ℕ
move_word moves j = packed_move (move_at (moves_of moves) j)

-- the word of the move line at the start of t, and the bytes of the line with its line feed
pub record WordAt (t : Text) (word used : ℕ) : Type 0 where
  pub word_is : word ≡ packed_move (move_of (line_at t))
  pub used_is : used ≡ span_of line_feed t + 1
  pub within : used ≤ length t
