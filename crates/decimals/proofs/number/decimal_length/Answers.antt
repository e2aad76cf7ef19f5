-- `decimal_length` meets its contract. Assumes nothing.
use Rattle.decimals.proofs.DigitsLaw.{digits_by_power}
use Rattle.decimals.proofs.number.decimal_length.Goals as goal

pub returns-clause-value : goal.returns-clause-value
returns-clause-value c = digits_by_power _ _ c.max.ensures c.ilog10.ensures.power_le c.ilog10.ensures.next_power_gt
