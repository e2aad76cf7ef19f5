-- The parts of the steps before k are added up. Assumes nothing.
use mathlib.Core.Path.{◌≡◌}
use Rattle.csl.specs.Chain.{sum_to}
use Rattle.phase.proofs.GatherLaw.{part_at}
use Rattle.phase.proofs.ends.gatherable.Given as goal

abbrev pub invariant-loop-k : goal.invariant-loop-k
invariant-loop-k l = l.g ≡ sum_to (part_at l.words l.n l.error) l.k
