-- Laws behind the proofs of `labels`.
pub mod CommasLaw
pub mod NamesLaw
pub mod FirstLineLaw
pub mod LineLaw
pub mod LinesLaw
pub mod WordLaw
pub mod StoreLaw
pub mod PartLaw
