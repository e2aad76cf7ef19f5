-- The first line and the lines from the states so far are measured.
use Rattle.std.proofs.Common.{◌≡◌, ◌+◌, ◌*◌, ◌≤◌, length}
use Rattle.clean_copy.specs.Rates.{lines_below}
use Rattle.clean_copy.proofs.rates.Rates.copy_length.Given as goal

abbrev pub invariant-loop-s : goal.invariant-loop-s
invariant-loop-s l = record { is : l.length ≡ 13 + length (lines_below l.self l.s); most : l.length ≤ 13 + 32256 * l.s }
