-- `clear_work` meets its contract. Assumes nothing.
use Rattle.vectors.proofs.ClearLaw.{is_cleared}
use Rattle.vectors.proofs.clear_work.Goals as goal

pub returns : goal.returns
returns c = is_cleared c.marks.result c.requires c.marks.ensures c.clear_from.ensures c.clear_from-2.ensures
