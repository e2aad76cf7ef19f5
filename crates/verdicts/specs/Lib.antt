-- The code's values, and what document 01 calls each of them.
pub mod Paper
pub mod Byte
pub mod Refusal
pub mod Answer
pub mod Sentence
