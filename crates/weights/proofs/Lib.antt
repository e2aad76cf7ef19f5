-- Laws behind the proofs of `weights`.
pub mod AddedLaw
pub mod OverLaw
pub mod Span
pub mod FallingLaw
pub mod RisingLaw
pub mod TotalLaw
pub mod WeighLaw
