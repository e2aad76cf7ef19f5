-- `write` meets its contract: each part has room, and stands behind the one before. Assumes nothing.
use Rattle.std.proofs.Common.{rules}
use Rattle.clean_copy.proofs.PairLaw.{pair_laws}
use Rattle.clean_copy.proofs.pair.Pair.write.Goals as goal

pub returns : goal.returns
returns c = search (rules, pair_laws)
