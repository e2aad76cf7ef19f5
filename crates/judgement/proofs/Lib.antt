-- Laws behind the proofs of `judgement`.
pub mod JudgeLaw
