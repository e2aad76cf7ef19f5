-- `no_repeat` meets its contract, by the laws of `NamesLaw`. Assumes nothing.
use mathlib.Core.Path.{◌≡◌}
use lib.ListN.{length}
use Rattle.csl.specs.Line.{comma}
use Rattle.csl.specs.Labels.{no_repeat}
use Rattle.texts.specs.Behind.{parts_behind}
use Rattle.labels.proofs.names.no_repeat.Given as goal

abbrev pub invariant-loop-t : goal.invariant-loop-t
invariant-loop-t l = no_repeat (parts_behind comma l.t) ≡ no_repeat (parts_behind comma l.s)

abbrev pub decreases-loop-t : goal.decreases-loop-t
decreases-loop-t l = length l.t
