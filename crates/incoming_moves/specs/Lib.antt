-- The index of the moves by the state that they enter, and what it shows of a chain.
pub mod Indexed
pub mod Passes
pub mod Shown
