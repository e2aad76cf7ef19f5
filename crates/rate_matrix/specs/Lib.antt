-- Moves as words, what words say of a chain, and what the words that a sheet's moves are stored in say of its chain.
pub mod Packed
pub mod Halves
pub mod Keys
pub mod Sorting
pub mod Words
pub mod Lines
pub mod Sorted
pub mod Laid
pub mod Asked
pub mod Shown
pub mod ByPlace
pub mod Stored
