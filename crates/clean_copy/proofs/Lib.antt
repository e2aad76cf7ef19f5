-- Laws behind the proofs of `clean_copy`.
mod PairLaw
mod RowLaw
mod RatesLaw
mod WholeLaw
mod AnswerLaw
mod LayLaw
mod CopyLaw
