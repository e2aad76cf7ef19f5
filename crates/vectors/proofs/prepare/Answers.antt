-- `prepare` meets its contract. Assumes nothing.
use Rattle.vectors.proofs.ClearLaw.{is_laid}
use Rattle.vectors.proofs.prepare.Goals as goal

pub returns : goal.returns
returns c = is_laid c.marks.result c.requires c.marks.ensures c.clear_from.ensures c.prepare.ensures
