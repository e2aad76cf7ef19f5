-- `enter` meets its contract. Assumes nothing.
use Prim.Native.Nat.{◌+◌}
use Rattle.reachability.proofs.EnterLaw.{Inv}
use Rattle.reachability.proofs.spread.enter.Given as goal

abbrev pub invariant-loop-word : goal.invariant-loop-word
invariant-loop-word l = Inv l.index l.initial.words l.initial.rows l.n l.begin l.end l.queued l.most l.words l.rows l.tail (l.begin + l.word-index)
