-- `over_next` meets its contract. Assumes nothing.
use Rattle.std.proofs.Common.{rules}
use Rattle.decide.proofs.NextLaw.{next_laws}
use Rattle.decide.proofs.chance.over_next.Goals as goal

pub next_move-requires : goal.next_move-requires
next_move-requires c = search (rules, next_laws)

pub next-requires : goal.next-requires
next-requires c = search (rules, next_laws)

pub returns : goal.returns
returns c = search (rules, next_laws)
