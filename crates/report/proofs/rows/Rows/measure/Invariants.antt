-- What is left and the lines so far are all that was behind the names.
use Rattle.std.proofs.Common.{◌≡◌, ◌+◌, length}
use Rattle.report.proofs.LinesLaw.{before}
use Rattle.report.proofs.rows.Rows.measure.Given as goal

abbrev pub invariant-loop-place : goal.invariant-loop-place
invariant-loop-place l = l.left + length (before l.which l.self l.place) + 32 ≡ l.fn.room
