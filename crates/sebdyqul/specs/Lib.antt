-- What a caller in another language gets.
pub mod Called
pub mod OtherMarks
