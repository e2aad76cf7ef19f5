-- Laws behind the proofs of `formula`.
pub mod SizeLaw
pub mod TextLaw
pub mod WaitLaw
pub mod PutLaw
pub mod TopLaw
pub mod LaidLaw
pub mod KindLaw
pub mod LayLaw
pub mod PassLaw
pub mod ReadLaw
