-- From a finished job and its rendering to the text that is printed. Assumes nothing.
use mathlib.Core.Path.{◌≡◌, refl, ap, ◌∙◌}
use mathlib.Core.Bool.{true}
use mathlib.Core.List.{List}
use Rattle.std.specs.Prelude.{Option, None, Some, Result, Ok, Err, MatchResult}
use Rattle.std.specs.Option.{unwrap_or}
use Rattle.std.specs.Result.{result_err, IsErrAnd}
use Prim.Native.Nat.{ℕ, ◌≤◌, ◌<◌}
use native.Mathlib.Omega.{arith}
use lib.ListN.{length, take}
use lib.Seq.{take_at}
use lib.Dec.{leb}
use borrow.Author.Tests.{le-leb}
use Rattle.csl.specs.Text.{Text}
use Rattle.csl.specs.Chain.{chain_of}
use Rattle.csl.specs.Order.{is_above, worst_first}
use Rattle.csl.specs.Report.{report_text, refusal_text, depth_of}
use Rattle.csl.specs.Lent.{Buffers, lengths, verdict_byte, column, written, filled}
use Rattle.csl.specs.Refusal.{Job, job_states, job_chain, job_formula, text_refusal, outcome}
use Rattle.csl.specs.Finished.{Answer, refused_with, accepted_with, Accepted, TurnedBack, Finished, FinishedBy}
use Rattle.csl.proofs.Laws.Order.{ordered_length}
use Rattle.accepted.specs.Job.{passed, refused_by_texts, accepted_by_all, text_number_most}
use Rattle.console.specs.Counts.{IsPrefixLen}
use Rattle.console.proofs.Counting.{prefix_len_of_le}
use Rattle.verdicts.specs.Byte.{verdict_at, byte_read}
use Rattle.verdicts.specs.Answer.{answer_of, numbered_answer, reported_states}
use Rattle.verdicts.specs.Refusal.{number_of}
use Rattle.verdicts.specs.declared.answer.Accepted as code
use Rattle.verdicts.specs.declared.refusal.Refusal.{Refusal}
use Rattle.results.specs.Column.{column_length, written_length, written_at_lem}
use Rattle.checker.specs.Job.{states_in}
use Rattle.report.specs.Listing.{listings}
use Rattle.report.specs.Rendering.{is_complete, fits, Printed}
use Rattle.report.specs.Refused.{refusal_few}
use Rattle.report.specs.Worst.{worst_are_states, worst_listed}
use Rattle.console.specs.Told.{number_told}
use Rattle.console.specs.declared.printing.Written.{Written}
use Rattle.sheetcheck.specs.Prints.{Prints, Answered}
use Rattle.sheetcheck.proofs.Limits.{none_short, depth_few, InRange, ends_in_range}
use Rattle.sheetcheck.proofs.Lines.{report_few}

-- the buffers that the program lends
pub record Roomy (b : Buffers (List ℕ)) : Type 0 where
  pub lowers : 512 ≤ length b.lower
  pub uppers : 512 ≤ length b.upper
  pub bytes : 512 ≤ length b.verdicts
  pub places : 512 ≤ length b.order
  pub words : 8192 ≤ length b.moves
  pub vectors : 5632 ≤ length b.vectors
  pub marks : 8704 ≤ length b.marks

-- the number that an answer is refused with
abbrev refused_in : Answer → Option ℕ
refused_in (refused_with number) = Some number
refused_in (accepted_with d) = None

-- the rendering is the text for the job, and the answer has its number
pub record TextFor (j : Job) (a : Answer) (old new : List ℕ) (r : Option ℕ) : Type 0 where
  pub text : Text
  pub prints : Prints j text
  pub answer : r ≡ Some (length text)
  pub buffer : new ≡ written text old
  pub fit : length text ≤ length old
  pub number : refused_in a ≡ text_refusal j

-- a text that fits
fitting_text : (j : Job) (n : ℕ) (a : Answer) (l u b o old new : List ℕ) (r : Option ℕ) (text : Text) → listings n a l u b o ≡ text
    → is_complete n a l u b o ≡ true → length text ≤ length old → Prints j text → refused_in a ≡ text_refusal j → Printed n a l u b o old new r
    → TextFor j a old new r
unfolding fits
fitting_text j n a l u b o old new r text e c h t k p =
    let f : fits (length old) n a l u b o ≡ true = rw (c, e) (le-leb (length text) (length old) h) in
    record { text = text; prints = t; answer = rw (f, e) at p.answer; buffer = rw (f, e) at p.buffer; fit = h; number = k }

module _ (j : Job) (before after : Buffers (List ℕ)) (a : Answer) (n : ℕ) (old new : List ℕ) (r : Option ℕ) (big : 65536 ≤ length old)
    (p : Printed n a after.lower after.upper after.verdicts after.order old new r) where
  -- a refusal
  refusal_text_lem : (k : ℕ) → text_refusal j ≡ Some k → TurnedBack k before a after → TextFor j a old new r
  unfolding Prints listings
  refusal_text_lem k e t =
      fitting_text j n a after.lower after.upper after.verdicts after.order old new r (refusal_text k) (rw t.answer refl) (rw t.answer refl)
      (omega (arith, refusal_few k (text_number_most j k e))) (rw e refl) (rw (t.answer, e) refl) p

  -- a report
  module _ (e : text_refusal j ≡ None) (here : n ≡ job_states j) (lent : Roomy before)
      (t : Accepted j (job_chain j) (job_formula j) (depth_of (job_chain j) (job_formula j)) before a after) where
    few : n ≤ 512
    few = omega (arith, (passed j e).sheet.sound.few_states)

    lower_is : after.lower ≡ written (column t.lower n) before.lower
    unfolding filled
    lower_is = rw (here, t.buffers) refl

    upper_is : after.upper ≡ written (column t.upper n) before.upper
    unfolding filled
    upper_is = rw (here, t.buffers) refl

    bytes_are : after.verdicts ≡ written (column (λ s. verdict_byte (t.verdict s)) n) before.verdicts
    unfolding filled
    bytes_are = rw (here, t.buffers) refl

    order_is : after.order ≡ written (worst_first t.lower t.upper n) before.order
    unfolding filled
    order_is = rw (here, t.buffers) refl

    order_front : take n after.order ≡ worst_first t.lower t.upper n
    unfolding written
    order_front =
        ap (take n) order_is ∙ take_at (worst_first t.lower t.upper n) _ n (ordered_length (is_above t.lower t.upper) n)

    -- each buffer is as long as it was
    kept : (new l k : List ℕ) → length new ≡ n → 512 ≤ length l → k ≡ written new l → leb n (length k) ≡ true
    kept new l k m h q =
        le-leb n (length k) (omega (arith, few, ap length q, m, written_length new l (omega (arith, few, m))))

    column_kept : (f : ℕ → ℕ) (l k : List ℕ) → 512 ≤ length l → k ≡ written (column f n) l → leb n (length k) ≡ true
    column_kept f l k h q = kept (column f n) l k (column_length f n) h q

    all_there : is_complete n a after.lower after.upper after.verdicts after.order ≡ true
    all_there =
        rw (
          t.answer,
          column_kept t.lower before.lower after.lower lent.lowers lower_is,
          column_kept t.upper before.upper after.upper lent.uppers upper_is,
          column_kept (λ s. verdict_byte (t.verdict s)) before.verdicts after.verdicts lent.bytes bytes_are,
          kept (worst_first t.lower t.upper n) before.order after.order (ordered_length _ n) lent.places order_is,
          worst_are_states n t.lower t.upper after.order order_front,
        )

    in_range : (s : ℕ) → s < n → InRange (t.lower s) (t.upper s)
    unfolding chain_of
    in_range s b = ends_in_range (job_chain j) t.lower t.upper t.verdict s (omega (arith, here)) (job_formula j) t.reported

    lines_are : listings n a after.lower after.upper after.verdicts after.order
        ≡ report_text n t.lower t.upper (depth_of (job_chain j) (job_formula j)) t.verdict
    lines_are =
        rw t.answer
        (worst_listed n t.lower t.upper after.order order_front after.lower after.upper after.verdicts t.verdict
        (depth_of (job_chain j) (job_formula j))
        (λ s b. rw lower_is (written_at_lem t.lower n before.lower s b))
        (λ s b. rw upper_is (written_at_lem t.upper n before.upper s b))
        (λ s b. rw bytes_are (ap verdict_at (written_at_lem (λ k. verdict_byte (t.verdict k)) n before.verdicts s b) ∙ byte_read (t.verdict s))))

    report_text_lem : TextFor j a old new r
    unfolding Prints
    report_text_lem =
        fitting_text j n a after.lower after.upper after.verdicts after.order old new r
        (report_text n t.lower t.upper (depth_of (job_chain j) (job_formula j)) t.verdict) lines_are all_there
        (omega (arith, report_few n t.lower t.upper (depth_of (job_chain j) (job_formula j)) t.verdict few in_range (depth_few j (passed j e))))
        (rw e (record { lower = t.lower; upper = t.upper; verdict = t.verdict; reported = t.reported; lines = rw here refl })) (rw (t.answer, e) refl) p

  -- either, where n is how many states the outcome has
  pub answer_text : Finished j before a after → n ≡ states_in (outcome j (lengths before)) → Roomy before → TextFor j a old new r
  unfolding Finished FinishedBy chain_of
  answer_text f s lent = go (text_refusal j) refl
    where
      go : (o : Option ℕ) → text_refusal j ≡ o → TextFor j a old new r
      go (Some k) e = refusal_text_lem k e (rw (refused_by_texts j (lengths before) k e) at f)
      go None e =
          let q = none_short j (passed j e) (lengths before) lent.lowers lent.uppers lent.bytes lent.places lent.words lent.vectors lent.marks in
          let o = accepted_by_all j (lengths before) e q in
          report_text_lem e (s ∙ ap states_in o) lent (rw o at f)

-- what is rendered where the number stands in the refusal's place
pub numbered_printed : (a : Result code.Accepted Refusal) (b : Result code.Accepted ℕ)
    → MatchResult a (λ x. b ≡ Ok x) (λ e. IsErrAnd b (λ number. number ≡ number_of e)) → (lower upper verdicts order : List ℕ) {old new : List ℕ} {r : Option ℕ}
    → Printed (reported_states b) (numbered_answer b) lower upper verdicts order old new r
    → Printed (reported_states a) (answer_of a) lower upper verdicts order old new r
numbered_printed (Ok x) b e _ _ _ _ p = rw e at p
numbered_printed (Err k) (Err number) e _ _ _ _ p = rw e at p
numbered_printed (Err k) (Ok x) e _ _ _ _ p = absurd e

-- what is answered: the text's length and the refusal
told_is : (a : Result code.Accepted Refusal) → number_told (result_err a) ≡ refused_in (answer_of a)
told_is (Ok accepted) = refl
told_is (Err refusal) = refl

pub text_answered : {j : Job} (a : Result code.Accepted Refusal) {old new : List ℕ} {r : Option ℕ} (w : Written) → TextFor j (answer_of a) old new r
    → w.length ≡ unwrap_or r 0 → w.refusal ≡ result_err a → IsPrefixLen w.length new × Answered j old new w
text_answered a {old = old} {r = r} w p e k =
    let q : w.length ≡ length p.text = e ∙ ap (λ (o : Option ℕ). unwrap_or o 0) p.answer in (
      prefix_len_of_le _ _ (omega (arith, p.fit, ap length p.buffer, written_length p.text old p.fit)),
      record { text = p.text; prints = p.prints; count = q; number = ap number_told k ∙ told_is a ∙ p.number; buffer = p.buffer },
    )
