-- The lines to the states so far are measured.
use Rattle.std.proofs.Common.{◌≡◌, ◌*◌, ◌≤◌, length}
use Rattle.clean_copy.specs.Row.{row_lines}
use Rattle.clean_copy.proofs.row.row_length.Given as goal

abbrev pub invariant-loop-to : goal.invariant-loop-to
invariant-loop-to l = record { is : l.length ≡ length (row_lines l.rates l.from l.to); most : l.length ≤ 63 * l.to }
