-- Laws that the proofs of the functions lean on.
mod RowLaw
