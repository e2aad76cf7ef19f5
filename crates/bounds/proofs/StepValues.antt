-- The numbers that the code of until and of the phase before it works out, from a chain and the two operands' verdicts: rounded step values, and
-- the two ends at one state. Assumes nothing.

-- the verdict of a byte, for those that build on this crate
pub use Rattle.verdicts.specs.Byte.{verdict_at}
