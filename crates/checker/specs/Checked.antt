-- What is answered to a checked job, and what it leaves. Assumes nothing.
use Rattle.std.specs.Prelude.{◌≡◌, List, ℕ, Result}
use Rattle.csl.specs.Lent.{Buffers, lengths}
use Rattle.csl.specs.Refusal.{Job, outcome}
use Rattle.csl.specs.Finished.{Finished}
use Rattle.verdicts.specs.Answer.{answer_of, reported_states}
use Rattle.verdicts.specs.declared.answer.Accepted.{Accepted}
use Rattle.verdicts.specs.declared.refusal.Refusal.{Refusal}
use Rattle.checker.specs.Job.{states_in}
use Rattle.checker.specs.Leaves.{leaves}

-- the job is finished as the paper has it, the buffers hold what is found of its chain and formula, and the answer has the states of the chain
pub record Ended (j : Job) (before : Buffers (List ℕ)) (x : Result Accepted Refusal) (after : Buffers (List ℕ)) : Type 0 where
  pub finished : Finished j before (answer_of x) after
  pub found : after ≡ leaves j before
  pub counted : reported_states x ≡ states_in (outcome j (lengths before))
