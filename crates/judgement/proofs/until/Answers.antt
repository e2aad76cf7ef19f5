-- `until` meets its contract. Assumes nothing.
use Rattle.std.proofs.Common.{rules}
use Rattle.judgement.proofs.JudgeLaw.{judge_laws}
use Rattle.judgement.proofs.until.Goals as goal

pub returns-then-moves_decide-clause-judge_leaves : goal.returns-then-moves_decide-clause-judge_leaves
returns-then-moves_decide-clause-judge_leaves c = search (rules, judge_laws)

pub returns-else-moves_decide-clause-judge_leaves : goal.returns-else-moves_decide-clause-judge_leaves
returns-else-moves_decide-clause-judge_leaves c = search (rules, judge_laws)
