-- `next_move` meets its contract. Assumes nothing.
use Rattle.next_move.proofs.EndsLaw.{Inv}
use Rattle.next_move.proofs.ends.next_move.Given as goal

abbrev pub invariant-loop-s : goal.invariant-loop-s
invariant-loop-s l = Inv l.moves l.initial.words l.words l.operand l.n l.begin l.s
