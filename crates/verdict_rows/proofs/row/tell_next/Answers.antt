-- `tell_next` meets its contract. Assumes nothing.
use Rattle.std.proofs.Common.{rules}
use Rattle.verdict_rows.proofs.RowLaw.{row_set}
use Rattle.verdict_rows.proofs.row.tell_next.Goals as goal

pub returns : goal.returns
returns c = row_set c.set.ensures (λ s h r. search rules)
