-- Laws behind the proofs of `next_move`.
pub mod ShareLaw
pub mod RowLaw
pub mod IntervalLaw
pub mod StateLaw
pub mod EndsLaw
