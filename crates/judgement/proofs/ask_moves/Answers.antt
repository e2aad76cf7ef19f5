-- `ask_moves` meets its contract. Assumes nothing.
use Rattle.std.proofs.Common.{rules}
use Rattle.judgement.proofs.JudgeLaw.{ask_laws}
use Rattle.judgement.proofs.ask_moves.Goals as goal

pub search-requires : goal.search-requires
search-requires c = search (rules, ask_laws)

pub returns-then-hundredths-ne0-clause-ask_leaves : goal.returns-then-hundredths-ne0-clause-ask_leaves
returns-then-hundredths-ne0-clause-ask_leaves c = search (rules, ask_laws)
