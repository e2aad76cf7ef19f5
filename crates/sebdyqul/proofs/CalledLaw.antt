-- A finished job, told by a number and a stored depth. Assumes nothing.
use mathlib.Core.Path.{◌≡◌, refl, sym, subst}
use mathlib.Core.List.{List}
use Rattle.std.specs.Prelude.{Option, None, Some, Ok, Err}
use Prim.Native.Nat.{ℕ, zero, suc, ◌<◌}
use native.Mathlib.Omega.{arith}
use Rattle.csl.specs.Lent.{Buffers, lengths}
use Rattle.csl.specs.Refusal.{Job, refusal, outcome, outcome_by}
use Rattle.accepted.specs.Job.{refusal_number_some}
use Rattle.csl.specs.Finished.{Answer, refused_with, accepted_with, Finished, FinishedBy}
use Rattle.verdicts.specs.Answer.{answer_of}
use Rattle.verdicts.specs.Refusal.{number_of}
use Rattle.verdicts.specs.declared.answer.Accepted.{Accepted}
use Rattle.verdicts.specs.declared.refusal.Refusal.{Refusal}
use Rattle.checker.specs.Leaves.{leaves}
use Rattle.sebdyqul.specs.Called.{answer_from, Called}

-- a number other than 0, where an answer is a refusal
abbrev Told : Answer → Type 0
Told (refused_with k) = 0 < k
Told (accepted_with d) = Unit {0}

told : (j : Job) (before after : Buffers (List ℕ)) (a : Answer) → Finished j before a after → Told a
unfolding Finished FinishedBy outcome outcome_by
told j before after a f = go (refusal j (lengths before)) refl f
  where
    go : (o : Option ℕ) → refusal j (lengths before) ≡ o → FinishedBy j (outcome_by j o) before a after → Told a
    go (Some k) e t = subst Told (sym t.answer) (refusal_number_some j (lengths before) k e)
    go None e t = subst Told (sym t.answer) tt

-- the number of a refusal is told as it is
same_answer : (k d : ℕ) → 0 < k → answer_from k d ≡ refused_with k
same_answer zero d h = absurd (omega arith)
same_answer (suc k) d h = refl

module _ (j : Job) (before after : Buffers (List ℕ)) (l : after ≡ leaves j before) (old : ℕ) where
  pub accepted_called : (a : Accepted) → Finished j before (answer_of (Ok a)) after → Called j before old 0 a.depth after
  accepted_called a f = record { finished = f; found = l; kept = λ h. absurd (omega arith) }

  pub refused_called : (r : Refusal) {k : ℕ} → k ≡ number_of r → Finished j before (answer_of (Err r)) after → Called j before old k old after
  refused_called r e f =
      let some = told j before after (refused_with (number_of r)) f in
      rw e (record { finished = rw (same_answer (number_of r) old some) f; found = l; kept = λ h. refl })
