-- What a job leaves in the lent buffers, as the engine has it: csl's `Finished` leaves the ends open, and these are the ones that are found. Assumes nothing.
use Rattle.std.specs.Prelude.{List, ℕ, length}
use Rattle.csl.specs.Formula.{nodes}
use Rattle.csl.specs.Lent.{Buffers, lengths, filled}
use Rattle.csl.specs.Refusal.{Job, job_states, job_moves, Outcome, refused, accepted, outcome}
use Rattle.bounds.specs.Found.{report_lower, report_upper, found}

-- a refused job leaves all as it was; an accepted one what is found of its chain and its formula
unfoldable pub left_by : (states lines : ℕ) → Outcome → Buffers (List ℕ) → Buffers (List ℕ)
left_by n m (refused number) before = before
left_by n m (accepted c f q d) before = filled n m (nodes f) (report_lower c f) (report_upper c f) (found c f) before

unfoldable pub leaves : Job → Buffers (List ℕ) → Buffers (List ℕ)
leaves j before = left_by (job_states j) (length (job_moves j)) (outcome j (lengths before)) before
