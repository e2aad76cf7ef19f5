-- What the copy of a sheet's moves is made of, part by part, and what copying answers.
pub mod Row
pub mod Pair
pub mod Laid
pub mod Lay
pub mod Whole
pub mod Rates
pub mod Answer
pub mod Number
