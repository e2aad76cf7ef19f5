-- Laws behind the proofs of `incoming_moves`.
pub mod CountLaw
pub mod IndexLaw
