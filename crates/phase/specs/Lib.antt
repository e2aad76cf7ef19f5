-- Step values as the code works them out, and what the functions of a phase ask and promise.
pub mod Value
pub mod Bound
pub mod Rounded
pub mod Moving
pub mod Load
pub mod Steps
pub mod Ends
pub mod Sums
