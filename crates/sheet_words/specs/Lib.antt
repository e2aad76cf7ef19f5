-- What is asked of the words of a sheet, what they hold, and what that says of its chain.
pub mod Stored
pub mod Shown
