-- Rows of verdict bytes, and the bytes in them.
pub mod Byte
pub mod Row
