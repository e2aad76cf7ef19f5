-- `known_field` meets its contract. Assumes nothing.
use Prim.Native.Nat.{◌-◌}
use lib.ListN.{length}
use Rattle.texts.specs.Counting.{Counting}
use Rattle.texts.proofs.fields.known_field.Given as goal

abbrev pub invariant-loop-value : goal.invariant-loop-value
invariant-loop-value l = Counting l.t l.value l.used

abbrev pub decreases-loop-value : goal.decreases-loop-value
decreases-loop-value l = length l.t - l.used
