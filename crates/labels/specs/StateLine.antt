-- The state line at the start of a text, and all its state lines. Assumes nothing.
use Rattle.std.specs.Prelude.{ℕ, suc, ◌+◌, ◌*◌, ◌≤◌, Bool, cond, ◌&&◌, length, drop, Option, Some, None}
use mathlib.Core.List.{[], head_d}
use Rattle.csl.specs.Text.{Text}
use Rattle.csl.specs.Number.{value_of}
use Rattle.csl.specs.Line.{line_feed, lines_of}
use Rattle.csl.specs.Labels.{state_line, in_turn}
use Rattle.texts.specs.Span.{span_of}
use Rattle.texts.specs.declared.digits.Numeral.{Numeral}
use Rattle.texts.specs.Digits.{read}
use Rattle.texts.specs.LineAt.{line_at, is_ended_at, fields_at}
use Rattle.texts.specs.Marks.{marks_in}
use Rattle.texts.specs.Lines.{lines_pass}
use Rattle.labels.specs.declared.lines.StateLines.{StateLines}

-- an ended line of a number and a mark for each name
unfoldable pub is_state_line_at : ℕ → Text → Bool
is_state_line_at names t = is_ended_at t && state_line (suc names) (line_at t)

unfoldable pub state_line_at : ℕ → Text → Option Numeral
state_line_at names t = cond (is_state_line_at names t) (read (value_of (head_d (fields_at t) [])) (span_of line_feed t + 1)) None

-- the number was read from so many bytes
abbrev pub marks_behind : ℕ → ℕ → ℕ → Text → Option Numeral
marks_behind number used names t = cond (marks_in names (drop used t)) (read number (used + 2 * names)) None

-- a line read from `size` bytes: the marks are its last
abbrev pub StateLineFits : ℕ → ℕ → Option Numeral → Type 0
StateLineFits names size (Some r) = (2 * names + 1 ≤ r.used) × (r.used ≤ size)
StateLineFits names size None = 0 ≤ size

-- the state lines of a text, behind k lines; `turn` says whether those counted on
unfoldable pub state_lines_at : ℕ → ℕ → Bool → Text → Option StateLines
state_lines_at names k turn t =
    cond (lines_pass (state_line (suc names)) t) (Some (record { count = k + length (lines_of t); turn = turn && in_turn k (lines_of t) })) None
