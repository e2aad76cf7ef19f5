-- Laws behind the proofs of `vectors`.
pub mod ClearLaw
