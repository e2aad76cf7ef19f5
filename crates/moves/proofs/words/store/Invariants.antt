-- `store` meets its contract, by the laws of `StoreLaw`. Assumes nothing.
use Rattle.moves.proofs.StoreLaw.{Storing}
use Rattle.moves.proofs.words.store.Given as goal

abbrev pub invariant-loop-j : goal.invariant-loop-j
invariant-loop-j l = Storing l.s l.initial.words l.words l.t l.j
