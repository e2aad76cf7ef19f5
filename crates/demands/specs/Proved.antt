-- What the demands say of the answer, from what a finished job is. Assumes nothing.
use Rattle.std.specs.Prelude.{◌≡◌, Bool, false, List, ◌++◌, ◌⊎◌, ℕ, ◌*◌, ◌≤◌, min, length, take, Option, None, Some}
use Rattle.std.proofs.Math.Path.{refl, ap}
use Rattle.std.proofs.Common.{sym, ◌∙◌, arith, take_at, drop_at}
use Rattle.std.proofs.Math.Logic.{inl, inr}
use Rattle.std.proofs.lemmas.Option.{none-some}
use Rattle.std.proofs.Math.ListN.{drop}
use Rattle.csl.specs.Moves.{rates_out}
use Rattle.csl.specs.Formula.{Formula, always, label, negated, both, chance, nodes}
use Rattle.csl.specs.Chain.{Chain, exit_rate, top_rate}
use Rattle.csl.specs.Verdicts.{Verdict, Reading}
use Rattle.csl.specs.Next.{next_exit_rate}
use Rattle.csl.specs.Backing.{Backed}
use Rattle.csl.specs.Truth.{Obeys, Throughout}
use Rattle.csl.specs.Order.{is_above, worst_first, InOrder}
use Rattle.csl.specs.Report.{Reported, depth_of}
use Rattle.csl.specs.Lent.{Buffers, lengths, written, filled}
use Rattle.csl.specs.Refusal.{Job, job_sheet, job_states, job_moves, job_chain, job_formula, short_buffer, refusal, text_refusal, text_tests, first_of, accepted, outcome, outcome_by}
use Rattle.csl.specs.Finished.{Answer, refused_with, accepted_with, Finished, FinishedBy}
use Rattle.csl.proofs.Theorems as theorems
use Rattle.csl.proofs.Laws.Order.{ordered_length}
use Rattle.csl.specs.Laws.Lending.{ButForMarks}
use Rattle.csl.proofs.Laws.Lending.{refusal_alike}
use Rattle.accepted.specs.Order.{first_found}
use Rattle.accepted.specs.Rates.{others}
use Rattle.accepted.specs.Rates as rates
use Rattle.accepted.specs.Sheet.{Sound}
use Rattle.accepted.specs.Job.{refusal_number_some, refusal_number_most, passed, accepted_long}

-- a report with its backing, in the buffers
abbrev pub TheReport : Job → (before after : Buffers (List ℕ)) → (lower upper : ℕ → ℕ) → (ℕ → Verdict) → Type 0
TheReport j before after lower upper v =
    (after ≡ filled (job_states j) (length (job_moves j)) (nodes (job_formula j)) lower upper v before)
    × Reported (job_chain j) (job_formula j) lower upper v

differ : {A : Type 0} (k d : ℕ) (a : Answer) → a ≡ refused_with k → a ≡ accepted_with d → A
differ k d a h i = let z : ◌≡◌ {A = ℕ} 0 1 = cc in absurd (omega arith)

same_number : (k n : ℕ) (a : Answer) → a ≡ refused_with k → a ≡ refused_with n → k ≡ n
same_number k n a h i = cc

module _ (j : Job) (before : Buffers (List ℕ)) (a : Answer) (after : Buffers (List ℕ)) where
  -- by whether a test holds
  abbrev By : Option ℕ → Type 0
  By o = FinishedBy j (outcome_by j o) before a after

  abbrev Said : Option ℕ → Type 0
  Said None = a ≡ accepted_with (depth_of (job_chain j) (job_formula j))
  Said (Some k) = a ≡ refused_with k

  said : (o : Option ℕ) → By o → Said o
  unfolding FinishedBy outcome_by
  said None f = f.answer
  said (Some k) f = f.answer

  by : Finished j before a after → By (refusal j (lengths before))
  unfolding Finished outcome
  by f = f

  pub refused_so : Finished j before a after → (k : ℕ) → refusal j (lengths before) ≡ Some k → a ≡ refused_with k
  refused_so f k h = rw h at (said _ (by f))

  pub accepted_so : Finished j before a after → refusal j (lengths before) ≡ None → a ≡ accepted_with (depth_of (job_chain j) (job_formula j))
  accepted_so f h = rw h at (said _ (by f))

  pub accepted_then : Finished j before a after → (d : ℕ) → a ≡ accepted_with d → refusal j (lengths before) ≡ None
  accepted_then f d h = go (refusal j (lengths before)) (said _ (by f))
    where
      go : (o : Option ℕ) → Said o → o ≡ None
      go None e = refl
      go (Some k) e = differ k d a e h

  -- a number that no test has is not given
  pub never : (number : ℕ) → (refusal j (lengths before) ≡ Some number → ⊥) → Finished j before a after → a ≡ refused_with number → ⊥
  never number d f h = go (refusal j (lengths before)) refl (said _ (by f))
    where
      go : (o : Option ℕ) → refusal j (lengths before) ≡ o → Said o → ⊥
      go None e k = differ number _ a h k
      go (Some n) e k = d (e ∙ ap (λ (x : ℕ). Some x) (same_number n number a k h))

  answered : (o : Option ℕ) → refusal j (lengths before) ≡ o → By o
      → ((number : ℕ) × (a ≡ refused_with number) × (1 ≤ number) × (number ≤ 16) × (after ≡ before))
      ⊎ ((lower : ℕ → ℕ) × (upper : ℕ → ℕ) × (v : ℕ → Verdict) × (a ≡ accepted_with (depth_of (job_chain j) (job_formula j)))
      × TheReport j before after lower upper v)
  unfolding FinishedBy outcome_by
  answered None e f = inr (f.lower, f.upper, f.verdict, f.answer, (f.buffers, f.reported))
  answered (Some k) e f =
      inl (k, f.answer, refusal_number_some j (lengths before) k e, refusal_number_most j (lengths before) k e, f.untouched)

  pub one_answer : Finished j before a after
      → ((number : ℕ) × (a ≡ refused_with number) × (1 ≤ number) × (number ≤ 16) × (after ≡ before))
      ⊎ ((lower : ℕ → ℕ) × (upper : ℕ → ℕ) × (v : ℕ → Verdict) × (a ≡ accepted_with (depth_of (job_chain j) (job_formula j)))
      × TheReport j before after lower upper v)
  one_answer f = answered (refusal j (lengths before)) refl (by f)

-- other marks than an accepted job is lent, if there are enough
pub other_marks : (j : Job) (x y : Buffers (List ℕ)) → ButForMarks x y → refusal j (lengths x) ≡ None
    → min (17 * job_states j) (nodes (job_formula j) * job_states j) ≤ length y.marks → (refusal j (lengths y) ≡ None)
    × ((a : Answer) (left : Buffers (List ℕ)) → Finished j x a left → (other : Buffers (List ℕ)) × Finished j y a other × ButForMarks left other)
unfolding short_buffer
other_marks j x y same h l =
    let u : short_buffer j (lengths x) ≡ false = accepted_long j (lengths x) h in
    let w : short_buffer j (lengths y) ≡ false
    = theorems.marks_of_the_new_length_are_enough x y same (job_states j) (length (job_moves j)) (nodes (job_formula j)) u l in
    (refusal_alike j (lengths y) (lengths x) (w ∙ sym u) ∙ h, theorems.marks_change_nothing_else j x y same (u ∙ sym w))

-- the order buffer after an accepted job
module _ (j : Job) (before after : Buffers (List ℕ)) (lower upper : ℕ → ℕ) (v : ℕ → Verdict) (t : TheReport j before after lower upper v) where
  order_is : after.order ≡ worst_first lower upper (job_states j) ++ drop (job_states j) before.order
  unfolding filled written
  order_is =
      ap (λ (b : Buffers (List ℕ)). b.order) t.0
      ∙ ap (λ (k : ℕ). worst_first lower upper (job_states j) ++ drop k before.order) (ordered_length (is_above lower upper) (job_states j))

  order_front : take (job_states j) after.order ≡ worst_first lower upper (job_states j)
  order_front =
      ap (take (job_states j)) order_is ∙ take_at (worst_first lower upper (job_states j)) _ (job_states j) (ordered_length (is_above lower upper) (job_states j))

  pub order_beyond : drop (job_states j) after.order ≡ drop (job_states j) before.order
  order_beyond =
      ap (drop (job_states j)) order_is ∙ drop_at (worst_first lower upper (job_states j)) _ (job_states j) (ordered_length (is_above lower upper) (job_states j))

  pub order_kept : InOrder (is_above lower upper) (job_states j) (take (job_states j) after.order)
  order_kept = rw order_front (theorems.second_listing_is_in_order lower upper (job_states j))

  pub order_alone : (l : List ℕ) → InOrder (is_above lower upper) (job_states j) l → l ≡ take (job_states j) after.order
  order_alone l h = theorems.no_other_listing_is_in_order lower upper (job_states j) l h ∙ sym order_front

-- a job that no test turns back
module _ (j : Job) (lent : Buffers ℕ) (h : refusal j lent ≡ None) where
  pub outcome_by_lem : outcome j lent ≡ accepted (job_chain j) (job_formula j) (top_rate (job_chain j)) (depth_of (job_chain j) (job_formula j))
  unfolding outcome outcome_by
  outcome_by_lem = rw h refl

  texts_pass : text_refusal j ≡ None
  unfolding refusal text_refusal
  texts_pass = go (first_of (text_tests j)) refl
    where
      go : (o : Option ℕ) → first_of (text_tests j) ≡ o → o ≡ None
      go None e = refl
      go (Some k) e = absurd (none-some k (sym (sym (first_found (text_tests j) _ k e) ∙ h)))

  sound : Sound (job_sheet j)
  sound = (passed j texts_pass).sheet.sound

  pub exit_by_lines : (s : ℕ) → exit_rate (job_chain j) s ≡ rates_out (others (job_moves j)) s
  exit_by_lines s = rates.exit_by_lines (job_sheet j) sound.within s

  pub next_exit_by_lines : (s : ℕ) → next_exit_rate (job_chain j) s ≡ rates_out (job_moves j) s
  next_exit_by_lines s = rates.next_exit_by_lines (job_sheet j) sound.within s

-- a table that agrees at every node agrees at the node itself
pub agrees_here : (c : Chain) (f : Formula) (v : ℕ → Verdict) (b : ℕ → Bool) (k : Backed c f v) (o : Obeys c f b) → Throughout c f v b k o
    → Reading c.states v b
unfolding Throughout
agrees_here c always v b k o h = h
agrees_here c (label name) v b k o h = h
agrees_here c (negated a) v b k o h = h.0
agrees_here c (both a e) v b k o h = h.0
agrees_here c (chance r p w) v b k o h = h.0
