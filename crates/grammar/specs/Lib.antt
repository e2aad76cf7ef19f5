-- The tokens of a formula and what they stand for; laws of the grammar that csl defines on tokens.
pub mod Left
pub mod Fixed
pub mod Then
pub mod Tokens
pub mod Head
pub mod Chance
pub mod Hours
pub mod PathStart
