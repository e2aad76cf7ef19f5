-- `write_field` meets its contract: the number stands behind the comma. Assumes nothing.
use Rattle.std.proofs.Common.{arith}
use Rattle.decimals.specs.Writing.{wrote_more}
use Rattle.decimals.proofs.number.write_field.Goals as goal

pub returns : goal.returns
returns c = wrote_more (omega arith) c.write_byte-digits.ensures c.write_decimal.ensures
