-- What follows from the definitions: the laws that the other crates rest on.
pub mod Ends
pub mod Upper
pub mod Width
pub mod StepValues
pub mod Near
pub mod Quotient
pub mod Shifted
pub mod PhaseEnd
pub mod Reading
pub mod UntilEnds
pub mod TwoPhases
pub mod EarlierEnds
pub mod Found
pub mod WholeHours
