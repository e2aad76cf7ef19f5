-- What the search for states that lead to the second operand asks and leaves, and how it stands on the way.
pub mod Standing
pub mod Asked
pub mod Searched
