-- Two calls for one job that are lent other marks get the same answer and the same report. Assumes nothing.
use Rattle.std.specs.Prelude.{◌≡◌, List, ℕ}
use Rattle.std.proofs.Common.{ap, sym, ◌∙◌}
use Rattle.csl.specs.Lent.{Buffers, lengths}
use Rattle.csl.specs.Refusal.{Job, short_buffer, Outcome, refused, accepted, outcome}
use Rattle.csl.specs.Finished.{Answer, refused_with, accepted_with, Finished, FinishedBy}
use Rattle.csl.specs.Laws.Lending.{ButForMarks}
use Rattle.checker.specs.OtherMarks.{same_but_for_marks}
use Rattle.sebdyqul.specs.Called.{answer_from, Called}

-- the answer of a finished job is that of its outcome
abbrev answer_in : Outcome → Answer
answer_in (refused number) = refused_with number
answer_in (accepted c f q d) = accepted_with d

answered : (j : Job) (o : Outcome) (before after : Buffers (List ℕ)) (a : Answer) → FinishedBy j o before a after → a ≡ answer_in o
unfolding FinishedBy
answered j (refused number) before after a f = f.answer
answered j (accepted c f q d) before after a k = k.answer

finished_answer : (j : Job) (before after : Buffers (List ℕ)) (a : Answer) → Finished j before a after → a ≡ answer_in (outcome j (lengths before))
unfolding Finished
finished_answer j before after a f = answered j (outcome j (lengths before)) before after a f

-- "Ends, depths, verdicts and listings equal those of the larger buffer": the number or the stored depth, and every other buffer
pub called_alike : (j : Job) (x y left other : Buffers (List ℕ)) (u v k l d e : ℕ) → Called j x u k d left → Called j y v l e other → ButForMarks x y
    → short_buffer j (lengths x) ≡ short_buffer j (lengths y) → (answer_from k d ≡ answer_from l e) × ButForMarks left other
called_alike j x y left other u v k l d e p q same h =
    let s = same_but_for_marks j x y same h in (
      finished_answer j x left _ p.finished ∙ ap answer_in s.0 ∙ sym (finished_answer j y other _ q.finished),
      rw (p.found, q.found) s.1,
    )
