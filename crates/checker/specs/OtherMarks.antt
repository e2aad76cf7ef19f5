-- Runs of one job that are lent other marks leave the same report, byte for byte. Assumes nothing.
use Rattle.std.specs.Prelude.{◌≡◌, List, ℕ, length}
use Rattle.csl.specs.Formula.{nodes}
use Rattle.csl.specs.Lent.{Buffers, lengths}
use Rattle.csl.specs.Refusal.{Job, job_states, job_moves, short_buffer, Outcome, refused, accepted, outcome}
use Rattle.csl.specs.Laws.Lending.{ButForMarks}
use Rattle.csl.proofs.Laws.Lending.{filled_alike, outcome_alike}
use Rattle.bounds.specs.Found.{report_lower, report_upper, found}
use Rattle.checker.specs.Leaves.{left_by, leaves}

left_alike : (n m : ℕ) (o : Outcome) (x y : Buffers (List ℕ)) → ButForMarks x y → ButForMarks (left_by n m o x) (left_by n m o y)
unfolding left_by
left_alike n m (refused number) x y h = h
left_alike n m (accepted c f q d) x y h = filled_alike n m (nodes f) (report_lower c f) (report_upper c f) (found c f) x y h

-- "Ends, depths, verdicts and listings equal those of the larger buffer": the answers too, since the outcomes are the same
pub same_but_for_marks : (j : Job) (x y : Buffers (List ℕ)) → ButForMarks x y → short_buffer j (lengths x) ≡ short_buffer j (lengths y)
    → (outcome j (lengths x) ≡ outcome j (lengths y)) × ButForMarks (leaves j x) (leaves j y)
unfolding leaves
same_but_for_marks j x y same h =
    let e : outcome j (lengths x) ≡ outcome j (lengths y) = outcome_alike j (lengths x) (lengths y) h in
    (e, rw e (left_alike (job_states j) (length (job_moves j)) (outcome j (lengths y)) x y same))
