-- `next` meets its contract. Assumes nothing.
use Rattle.std.proofs.Common.{rules}
use Rattle.judgement.proofs.JudgeLaw.{next_judge_laws}
use Rattle.judgement.proofs.next.Goals as goal

pub returns-then-moves_decide : goal.returns-then-moves_decide
returns-then-moves_decide c = search (rules, next_judge_laws)

pub returns-else-moves_decide : goal.returns-else-moves_decide
returns-else-moves_decide c = search (rules, next_judge_laws)
