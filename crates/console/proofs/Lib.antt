-- What a count that lies within a text has.
pub mod Counting
