-- `state_lines` meets its contract, by the laws of `LinesLaw`. Assumes nothing.
use lib.ListN.{length}
use Rattle.labels.proofs.LinesLaw.{Counting}
use Rattle.labels.proofs.lines.state_lines.Given as goal

abbrev pub invariant-loop-t : goal.invariant-loop-t
invariant-loop-t l = Counting l.names l.s l.t l.count l.turn

abbrev pub decreases-loop-t : goal.decreases-loop-t
decreases-loop-t l = length l.t
