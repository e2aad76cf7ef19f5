-- The recursion of `write_decimal` goes down with the number. Assumes nothing.
use Rattle.decimals.proofs.number.+write_decimal.Given as goal

abbrev pub decreases-write_decimal : goal.decreases-write_decimal
decreases-write_decimal l = l.number
