-- What the tests answer.
pub mod Sheet
pub mod Lengths
