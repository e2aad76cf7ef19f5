-- `store` meets its contract. Assumes nothing.
use Rattle.labels.proofs.StoreLaw.{Storing}
use Rattle.labels.proofs.words.store.Given as goal

abbrev pub invariant-loop-j : goal.invariant-loop-j
invariant-loop-j l = Storing l.s l.names l.initial.words l.words l.t l.j
