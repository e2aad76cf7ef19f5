-- The constants of the code and the numbers of the definition.
pub mod Tied
