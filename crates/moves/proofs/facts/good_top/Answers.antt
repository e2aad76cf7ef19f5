-- `good_top` meets its contract, by the laws of `TellingLaw`. Assumes nothing.
use Rattle.moves.proofs.TellingLaw.{top_wrong, top_good}
use Rattle.moves.proofs.facts.good_top.Goals as goal

pub returns-then-lines-top : goal.returns-then-lines-top
returns-then-lines-top c = top_wrong _ _ _ _ c.if-lines-states.false c.top_rate-top.ensures c.if-lines-top.true

pub returns : goal.returns
returns c = top_good _ _ _ _ c.if-lines-states.false c.top_rate-top.ensures c.if-lines-top.false
