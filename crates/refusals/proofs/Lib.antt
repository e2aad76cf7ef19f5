-- Laws behind the proofs of the tests.
pub mod JudgeLaw
pub mod SheetLaw
pub mod FormulaLaw
pub mod ShortLaw
