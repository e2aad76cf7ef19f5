-- `point` meets its contract. Assumes nothing.
use borrow.Author.Rules.{rules}
use Rattle.until.proofs.PointLaw.{point_laws, turn}
use Rattle.until.proofs.ends.point.Goals as goal

pub overflow_cast-words : goal.overflow_cast-words
overflow_cast-words c = search (rules, point_laws)

pub overflow_cast-words-in-loop-s : goal.overflow_cast-words-in-loop-s
overflow_cast-words-in-loop-s c = search (rules, point_laws)

pub loop-s-preserved : goal.loop-s-preserved
loop-s-preserved c =
    turn c.requires c.loop-s.invariant c.loop-s-test.true _ _ _ c.from-by_first.ensures c.from-by_second.ensures
    c.pointed-ends.ensures
