-- Laws behind the proofs of storing a sheet.
pub mod MarksLaw
pub mod StoreLaw
