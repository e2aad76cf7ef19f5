-- The weights of steps 0 to k stand. Assumes nothing.
use Prim.Native.Nat.{◌+◌}
use Rattle.bounds.specs.Weight.{low}
use Rattle.numbers.specs.Filled.{Filled}
use Rattle.weights.proofs.rising.Given as goal

abbrev pub invariant-loop-k : goal.invariant-loop-k
invariant-loop-k l = Filled (low l.a l.b l.m) l.from (l.k + 1) l.fn.words l.words
