-- `number` meets its contract. Assumes nothing.
use Rattle.texts.specs.Counting.{Counting}
use Rattle.texts.proofs.digits.number.Given as goal

abbrev pub invariant-loop-used : goal.invariant-loop-used
invariant-loop-used l = Counting l.s l.value l.used
