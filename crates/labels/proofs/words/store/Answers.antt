-- `store` meets its contract, by the laws of `StoreLaw`. Assumes nothing.
use Rattle.labels.proofs.StoreLaw.{start, turn}
use Rattle.labels.proofs.words.store.Goals as goal

pub loop-j-init : goal.loop-j-init
loop-j-init c = search start

pub loop-j-preserved : goal.loop-j-preserved
loop-j-preserved c = search turn
