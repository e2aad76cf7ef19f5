-- What the readers of the labels text answer.
pub mod FirstLine
pub mod StateLine
pub mod Facts
pub mod Left
pub mod Words
