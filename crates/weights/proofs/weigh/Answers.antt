-- `weigh` meets its contract. Assumes nothing.
use Rattle.weights.proofs.WeighLaw.{may_total}
use Rattle.weights.proofs.weigh.Goals as goal

pub total-requires : goal.total-requires
total-requires c = may_total c.requires c.falling.ensures c.rising.ensures
