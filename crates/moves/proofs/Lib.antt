-- Laws behind the proofs of `moves`.
pub mod LineLaw
pub mod KnownLaw
pub mod TotalsLaw
pub mod TallyLaw
pub mod TellingLaw
pub mod ReadLaw
pub mod TextLaw
pub mod StoreLaw
