-- What follows from the definitions alone: the theorems, and the laws that they and the other crates rest on.
pub mod Theorems
pub mod Laws
