-- What judging the row of a `P` asks and leaves.
pub mod Judged
