-- `write_decimal` meets its contract, by recursion on the number. Assumes nothing.
use native.Mathlib.Omega.{arith}
use Rattle.csl.proofs.Laws.Decimal.{length_one, length_more}
use Rattle.decimals.proofs.DigitsLaw.{one_digit, more_digits}
use Rattle.decimals.proofs.number.+write_decimal.Goals as goal

pub write_byte-requires : goal.write_byte-requires
write_byte-requires t c = omega (arith, length_one c.args.number (omega arith))

pub returns-then-number-lt10 : goal.returns-then-number-lt10
returns-then-number-lt10 t c = one_digit _ (omega arith) c.last_digit.ensures c.write_byte.ensures

pub write_decimal-last-requires : goal.write_decimal-last-requires
write_decimal-last-requires t c = (omega arith, omega (arith, length_more c.args.number (omega arith)))

pub write_byte-requires-2 : goal.write_byte-requires-2
write_byte-requires-2 t c =
    omega (arith, c.write_decimal-last.ensures.after, length_more c.args.number (omega arith))

pub returns : goal.returns
returns t c =
    more_digits _ (omega arith) (omega arith) c.last_digit-2.ensures c.write_decimal-last.ensures c.write_byte-2.ensures
