-- Laws behind the proofs of `phase`.
pub mod RowLaw
pub mod StateLaw
pub mod ValuesLaw
pub mod AdvanceLaw
pub mod StepsLaw
pub mod LastLaw
pub mod GatherLaw
