-- Readings of verdict bytes, runs over a phase, and what the functions of until ask and promise.
pub mod Reading
pub mod Run
pub mod Asked
pub mod Shown
