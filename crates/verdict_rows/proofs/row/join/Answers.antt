-- `join` meets its contract. Assumes nothing.
use Rattle.std.proofs.Common.{rules}
use Rattle.verdict_rows.proofs.RowLaw.{front_set}
use Rattle.verdict_rows.proofs.row.join.Goals as goal

pub returns : goal.returns
returns c = front_set _ c.set.ensures c.split_at_mut-row.ensures.value c.split_at_mut-row.ensures.front_len (λ s h e r. search rules)
