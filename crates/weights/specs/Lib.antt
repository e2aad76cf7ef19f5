-- What the functions of the weights ask.
pub mod Asked
