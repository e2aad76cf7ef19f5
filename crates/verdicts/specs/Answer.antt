-- What checking a job answers, and what document 01 calls it. Assumes nothing.
use Rattle.std.specs.Prelude.{ℕ, Result, Ok, Err}
use Rattle.csl.specs.Finished.{Answer, accepted_with, refused_with}
use Rattle.verdicts.specs.Refusal.{number_of}
use Rattle.verdicts.specs.declared.answer.Accepted.{Accepted}
use Rattle.verdicts.specs.declared.refusal.Refusal.{Refusal}

-- "An accepted job answers with the depth"; one that is turned back, with the number of what it is turned back with
abbrev pub answer_by : {E : Type 0} → (E → ℕ) → Result Accepted E → Answer
answer_by number (Ok accepted) = accepted_with accepted.depth
answer_by number (Err refusal) = refused_with (number refusal)

abbrev pub answer_of : Result Accepted Refusal → Answer
answer_of answer = answer_by number_of answer

-- where the number itself stands in the refusal's place
abbrev pub numbered_answer : Result Accepted ℕ → Answer
numbered_answer answer = answer_by (λ number. number) answer

-- the states of an accepted job's report; none of a refused one
abbrev pub reported_states : {E : Type 0} → Result Accepted E → ℕ
reported_states (Ok accepted) = accepted.states
reported_states (Err refusal) = 0
