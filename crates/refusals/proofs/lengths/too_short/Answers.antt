-- `too_short` meets its contract. Assumes nothing.
use Rattle.refusals.proofs.ShortLaw.{short_listed}
use Rattle.refusals.proofs.lengths.too_short.Goals as goal

pub returns : goal.returns
returns c = short_listed _ _ _ _ c.length.ensures c.length-2.ensures
