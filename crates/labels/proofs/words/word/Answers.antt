-- `word` meets its contract, by the laws of `WordLaw`. Assumes nothing.
use native.Mathlib.Omega.{arith}
use Rattle.labels.proofs.WordLaw.{done, mark_there, mark_yes, mark_no}
use Rattle.labels.proofs.words.word.Goals.{then-s-i-eq49, else-s-i-eq49}
use Rattle.labels.proofs.words.word.Goals as goal

pub bounds-s-i : goal.bounds-s-i
bounds-s-i c = mark_there c.loop-i.invariant c.loop-i-test.true

pub loop-i-preserved : goal.loop-i-preserved
loop-i-preserved c = elim c.if-s-i-eq49.branch [
  | then-s-i-eq49 w ↦ rw w.sum-is (mark_yes c.loop-i.invariant c.loop-i-test.true w.if-s-i-eq49.true)
  | else-s-i-eq49 w ↦ rw w.sum-is (mark_no c.loop-i.invariant c.loop-i-test.true w.if-s-i-eq49.false)
]

pub returns : goal.returns
returns c = done _ _ _ _ _ _ c.loop-i.invariant (omega arith)
