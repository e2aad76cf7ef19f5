-- Laws behind the proofs of `decimals`.
mod BytesLaw
mod DigitsLaw
