-- Whether a refusal is told, and counts within a text.
pub mod Told
pub mod Counts
