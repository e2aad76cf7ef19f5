-- What the functions of `division` ask and promise.
pub mod Contract
