-- Laws behind the proofs of `grammar`.
pub mod WordLaw
pub mod AmountLaw
pub mod HoursLaw
