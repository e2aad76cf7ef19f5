-- Laws behind the proofs of `rate_matrix`.
pub mod WordLaw
pub mod CountLaw
pub mod BeginLaw
pub mod PlaceLaw
pub mod PrepareLaw
