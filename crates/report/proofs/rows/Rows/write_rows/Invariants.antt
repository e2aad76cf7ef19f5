-- The lines before the place are written.
use Rattle.decimals.specs.Place.{Wrote}
use Rattle.report.proofs.LinesLaw.{before}
use Rattle.report.proofs.rows.Rows.write_rows.Given as goal

abbrev pub invariant-loop-place : goal.invariant-loop-place
invariant-loop-place l = Wrote l.at (before l.which l.self l.place) l.initial.out l.out l.next
