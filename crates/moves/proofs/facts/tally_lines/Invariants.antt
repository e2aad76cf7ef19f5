-- `tally_lines` meets its contract, by the laws of `ReadLaw`. Assumes nothing.
use lib.ListN.{length}
use Rattle.moves.proofs.ReadLaw.{Tallying}
use Rattle.moves.proofs.facts.tally_lines.Given as goal

abbrev pub invariant-loop-t : goal.invariant-loop-t
invariant-loop-t l = Tallying l.states l.s l.t l.lines l.totals l.owns

abbrev pub decreases-loop-t : goal.decreases-loop-t
decreases-loop-t l = length l.t
