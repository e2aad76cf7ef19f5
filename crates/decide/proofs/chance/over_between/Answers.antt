-- `over_between` meets its contract. Assumes nothing.
use Rattle.std.proofs.Common.{rules}
use Rattle.decide.proofs.BetweenLaw.{between_laws}
use Rattle.decide.proofs.chance.over_between.Goals as goal

pub returns-then-from-eq0 : goal.returns-then-from-eq0
returns-then-from-eq0 c = search (rules, between_laws)

pub returns-else-from-eq0 : goal.returns-else-from-eq0
returns-else-from-eq0 c = search (rules, between_laws)
