-- What stands at the start of a text, and how lines and fields are cut off it.
pub mod Digits
pub mod Counting
pub mod Span
pub mod Behind
pub mod Cut
pub mod Bools
pub mod LineAt
pub mod FieldsPass
pub mod Field
pub mod Marks
pub mod Numbers
pub mod Lines
pub mod Places
