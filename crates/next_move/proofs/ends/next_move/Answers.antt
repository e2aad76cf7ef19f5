-- `next_move` meets its contract. Assumes nothing.
use borrow.Author.Rules.{rules}
use Rattle.next_move.proofs.EndsLaw.{start, turn}
use Rattle.next_move.proofs.ends.next_move.Goals as goal

pub loop-s-init : goal.loop-s-init
loop-s-init c = start c.requires

pub loop-s-preserved : goal.loop-s-preserved
loop-s-preserved c =
    turn c.loop-s.invariant (search rules) _ c.state-ends.ensures _ _ c.from.ensures c.from-in-loop-s.ensures
