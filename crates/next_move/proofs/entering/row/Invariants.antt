-- `row` meets its contract. Assumes nothing.
use Prim.Native.Nat.{◌+◌}
use Rattle.next_move.proofs.RowLaw.{Inv}
use Rattle.next_move.proofs.entering.row.Given as goal

abbrev pub invariant-loop-word : goal.invariant-loop-word
invariant-loop-word l = Inv l.moves l.operand l.n l.begin l.end l.low l.high (l.begin + l.word-index)
