-- `write_bytes` meets its contract. Assumes nothing.
use Rattle.std.proofs.Common.{arith}
use Rattle.decimals.proofs.BytesLaw.{copied}
use Rattle.decimals.proofs.bytes.write_bytes.Goals as goal

pub returns : goal.returns
returns c = copied _ _ _ _ _ c.copy_from_slice.ensures.after (omega arith)
