-- What a job has that the tests do not turn back.
pub mod Order
pub mod Rates
pub mod Sheet
pub mod Formula
pub mod Job
