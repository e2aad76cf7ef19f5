-- `good_names` meets its contract, by the laws of `NamesLaw`. Assumes nothing.
use mathlib.Core.Path.{◌≡◌}
use lib.ListN.{length}
use Rattle.csl.specs.Text.{every}
use Rattle.csl.specs.Line.{comma}
use Rattle.csl.specs.Labels.{is_name}
use Rattle.texts.specs.Behind.{parts_behind}
use Rattle.labels.proofs.names.good_names.Given as goal

abbrev pub invariant-loop-t : goal.invariant-loop-t
invariant-loop-t l = every is_name (parts_behind comma l.t) ≡ every is_name (parts_behind comma l.s)

abbrev pub decreases-loop-t : goal.decreases-loop-t
decreases-loop-t l = length l.t
