-- Laws behind the proofs of `texts`.
pub mod Same
pub mod NumberLaw
pub mod ScanLaw
pub mod CutLaw
pub mod FieldLaw
pub mod WordLaw
