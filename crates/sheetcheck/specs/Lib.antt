-- What the program prints for a job.
pub mod Prints
