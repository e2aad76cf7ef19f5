-- The weights of the steps before k are added up, and that of the last. Assumes nothing.
use mathlib.Core.Path.{◌≡◌}
use Prim.Native.Nat.{◌+◌}
use Rattle.csl.specs.Chain.{sum_to}
use Rattle.weights.specs.Asked.{weighed}
use Rattle.weights.proofs.total.Given as goal

abbrev pub invariant-loop-k : goal.invariant-loop-k
invariant-loop-k l = l.t ≡ sum_to (weighed l.words l.from l.m) l.k + weighed l.words l.from l.m l.d
