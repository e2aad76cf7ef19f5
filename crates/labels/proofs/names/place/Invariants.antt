-- `place` meets its contract, by the laws of `NamesLaw`. Assumes nothing.
use lib.ListN.{length}
use Rattle.labels.proofs.NamesLaw.{Placing}
use Rattle.labels.proofs.names.place.Given as goal

abbrev pub invariant-loop-w : goal.invariant-loop-w
invariant-loop-w l = Placing l.names l.w l.t l.i

abbrev pub decreases-loop-w : goal.decreases-loop-w
decreases-loop-w l = length l.t
