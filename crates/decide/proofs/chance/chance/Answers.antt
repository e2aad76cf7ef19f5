-- `chance` meets its contract. Assumes nothing.
use Rattle.std.proofs.Common.{rules}
use Rattle.decide.proofs.ChanceLaw.{chance_laws}
use Rattle.decide.proofs.chance.chance.Goals as goal

pub returns-in-Until : goal.returns-in-Until
returns-in-Until c = search (rules, chance_laws)

pub returns-in-Next : goal.returns-in-Next
returns-in-Next c = search (rules, chance_laws)

pub returns-in-Between : goal.returns-in-Between
returns-in-Between c = search (rules, chance_laws)
