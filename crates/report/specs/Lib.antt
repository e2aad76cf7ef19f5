-- The text that a program prints, from what a job left in the lent buffers.
pub mod Listing
pub mod Rendering
pub mod Line
pub mod Shown
pub mod Worst
pub mod Refused
