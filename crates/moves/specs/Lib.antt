-- What the readers of the moves text answer.
pub mod Line
pub mod Totals
pub mod Tally
pub mod Facts
pub mod Words
