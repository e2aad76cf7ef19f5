-- `row` meets its contract. Assumes nothing.
use borrow.Author.Rules.{rules}
use Rattle.phase.proofs.RowLaw.{row_laws}
use Rattle.phase.proofs.values.row.Goals as goal

pub overflow_mul-sum-in-loop-j : goal.overflow_mul-sum-in-loop-j
overflow_mul-sum-in-loop-j c = search (rules, row_laws)

pub overflow_add-sum-in-loop-j : goal.overflow_add-sum-in-loop-j
overflow_add-sum-in-loop-j c = search (rules, row_laws)

pub loop-j-preserved : goal.loop-j-preserved
loop-j-preserved c = search (rules, row_laws)
