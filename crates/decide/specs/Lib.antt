-- What deciding a node asks and leaves, and when the nodes of a formula and the lent marks are such as it asks.
pub mod Rows
pub mod Asked
pub mod Plain
pub mod Chance
pub mod Node
pub mod Fits
pub mod Enough
