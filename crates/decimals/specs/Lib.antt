-- A text at a place in a lent buffer, and the decimal digits of a number.
pub mod Place
pub mod Writing
pub mod Growing
