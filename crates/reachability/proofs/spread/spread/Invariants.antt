-- `spread` meets its contract. Assumes nothing.
use Prim.Native.Nat.{◌-◌}
use Rattle.reachability.proofs.SpreadLaw.{Inv}
use Rattle.reachability.proofs.spread.spread.Given as goal

abbrev pub invariant-loop-head : goal.invariant-loop-head
invariant-loop-head l = Inv l.index l.initial.words l.initial.rows l.n l.queued l.most l.words l.rows l.tail l.head

abbrev pub decreases-loop-head : goal.decreases-loop-head
decreases-loop-head l = l.n - l.head
