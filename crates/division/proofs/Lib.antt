-- Laws behind the proofs of `division`.
pub mod MulDivLaw
