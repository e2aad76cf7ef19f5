-- The weights of steps k to m stand. Assumes nothing.
use Prim.Native.Nat.{◌+◌}
use Rattle.bounds.specs.Weight.{low}
use Rattle.weights.proofs.Span.{Span}
use Rattle.weights.proofs.falling.Given as goal

abbrev pub invariant-loop-k : goal.invariant-loop-k
invariant-loop-k l = Span (low l.a l.b l.m) l.from l.fn.words l.words l.k (l.m + 1)
