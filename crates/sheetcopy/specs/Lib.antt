-- What the program prints for moves that are to be copied.
pub mod Prints
