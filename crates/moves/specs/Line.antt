-- The move line at the start of a text. Assumes nothing.
use Rattle.std.specs.Prelude.{ℕ, ◌+◌, ◌≤◌, ◌<◌, cond, ◌&&◌, Option, Some, None}
use Rattle.csl.specs.Text.{Text}
use Rattle.csl.specs.Line.{line_feed}
use Rattle.csl.specs.Moves as csl
use Rattle.texts.specs.Span.{span_of}
use Rattle.texts.specs.LineAt.{line_at, is_ended_at}
use Rattle.moves.specs.declared.lines.Line.{Line}

-- the move m, read from so many bytes
abbrev pub line_of : csl.Move → ℕ → Option Line
line_of m used = Some (record { from = m.from; to = m.to; rate = m.rate; used = used })

unfoldable pub move_at : Text → Option Line
move_at t = cond (is_ended_at t && csl.move_line (line_at t)) (line_of (csl.move_of (line_at t)) (span_of line_feed t + 1)) None

-- a line read from `size` bytes
abbrev pub LineFits : ℕ → Option Line → Type 0
LineFits size (Some r) = (r.from < 1000000000) × (r.to < 1000000000) × (r.rate < 1000000000) × (1 ≤ r.used) × (r.used ≤ size)
LineFits size None = 0 ≤ size
