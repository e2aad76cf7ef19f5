-- The lines from the states so far are written.
use Rattle.decimals.specs.Place.{Wrote}
use Rattle.clean_copy.specs.Rates.{lines_below}
use Rattle.clean_copy.proofs.rates.Rates.write_lines.Given as goal

abbrev pub invariant-loop-s : goal.invariant-loop-s
invariant-loop-s l = Wrote l.at (lines_below l.self l.s) l.initial.out l.out l.next
