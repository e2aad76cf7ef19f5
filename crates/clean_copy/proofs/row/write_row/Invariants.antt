-- The lines to the states so far are written.
use Rattle.decimals.specs.Place.{Wrote}
use Rattle.clean_copy.specs.Row.{row_lines}
use Rattle.clean_copy.proofs.row.write_row.Given as goal

abbrev pub invariant-loop-to : goal.invariant-loop-to
invariant-loop-to l = Wrote l.at (row_lines l.rates l.from l.to) l.initial.out l.out l.next
