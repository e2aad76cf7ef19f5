-- The texts that PRISM's files become: what they are read back as. Theorems has what follows.
pub mod Exchanged
pub mod Written
pub mod Moves
pub mod Labels
pub mod Theorems
