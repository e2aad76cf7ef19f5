-- What a job has that no test of its three texts turns back, and the outcome by its texts and then its buffers. Assumes nothing.
use Rattle.std.specs.Prelude.{◌≡◌, true, false, not, List, [], ◌∷◌, ◌++◌, ℕ, ◌≤◌, ◌<◌, leb, ltb, eqb, None, Some}
use Rattle.std.proofs.Math.Path.{refl, ap}
use Rattle.std.proofs.Common.{◌∙◌, ltb-true, leb-true, eq-eqb}
use Rattle.std.proofs.lemmas.Bool.{false≢true}
use Rattle.csl.specs.Text.{every}
use Rattle.csl.specs.Limits.{formula_bytes}
use Rattle.csl.specs.Grammar.{read_formula}
use Rattle.csl.specs.Chain.{top_rate}
use Rattle.csl.specs.Report.{depth_of}
use Rattle.csl.specs.Lent.{Buffers}
use Rattle.csl.specs.Refusal.{Job, job_sheet, job_chain, job_formula, out_of_bytes, short_buffer, Test, test, sheet_tests, formula_tests, text_tests, first_of, text_refusal, refusal, refused, accepted, outcome_by, outcome}
use Rattle.accepted.specs.Order.{NoneHolds, first_none, first_found, first_after, first_number, none_left, none_right}
use Rattle.accepted.specs.Sheet.{SheetPassed, sheet_passed}
use Rattle.accepted.specs.Formula.{FormulaPassed, formula_passed}

-- refusal numbers start at 1, and those of the texts have at most two digits
pub refusal_number_some : (j : Job) (lent : Buffers ℕ) (k : ℕ) → refusal j lent ≡ Some k → 0 < k
unfolding refusal text_tests sheet_tests formula_tests every
refusal_number_some j lent k h = ltb-true 0 k (first_number (ltb 0) (text_tests j ++ (test 15 (short_buffer j lent) ∷ [])) k refl h)

pub refusal_number_most : (j : Job) (lent : Buffers ℕ) (k : ℕ) → refusal j lent ≡ Some k → k ≤ 16
unfolding refusal text_tests sheet_tests formula_tests every
refusal_number_most j lent k h = leb-true k 16 (first_number (λ n. leb n 16) (text_tests j ++ (test 15 (short_buffer j lent) ∷ [])) k refl h)

-- "7 is never given again", and "8 is never given again"
unnumbered : (n : ℕ) (j : Job) (lent : Buffers ℕ) → every (λ x. not (eqb x.number n)) (text_tests j ++ (test 15 (short_buffer j lent) ∷ [])) ≡ true
    → refusal j lent ≡ Some n → ⊥
unfolding refusal
unnumbered n j lent h e =
    absurd (false≢true (rw (eq-eqb n n refl) at (first_number (λ k. not (eqb k n)) (text_tests j ++ (test 15 (short_buffer j lent) ∷ [])) n h e)))

pub refusal_number_not_7 : (j : Job) (lent : Buffers ℕ) → refusal j lent ≡ Some 7 → ⊥
unfolding text_tests sheet_tests formula_tests every
refusal_number_not_7 j lent h = unnumbered 7 j lent refl h

pub refusal_number_not_8 : (j : Job) (lent : Buffers ℕ) → refusal j lent ≡ Some 8 → ⊥
unfolding text_tests sheet_tests formula_tests every
refusal_number_not_8 j lent h = unnumbered 8 j lent refl h

pub text_number_most : (j : Job) (k : ℕ) → text_refusal j ≡ Some k → k < 100
unfolding text_refusal text_tests sheet_tests formula_tests every
text_number_most j k h = ltb-true k 100 (first_number (λ n. ltb n 100) (text_tests j) k refl h)

-- a job whose texts are not turned back
pub record Passed (j : Job) : Type 0 where
  pub sheet : SheetPassed j.moves j.labels
  pub formula : FormulaPassed (job_sheet j).names (top_rate (job_chain j)) (read_formula j.formula)

abbrev formula_tests_of : Job → List Test
formula_tests_of j = formula_tests (job_sheet j).names (top_rate (job_chain j)) (read_formula j.formula)

module _ (j : Job) where
  -- what the three texts are turned back with, part by part
  pub formula_too_long : out_of_bytes formula_bytes j.formula ≡ true → text_refusal j ≡ Some 1
  unfolding text_refusal text_tests first_of
  formula_too_long h = rw h refl

  module _ (h : out_of_bytes formula_bytes j.formula ≡ false) where
    by_parts : text_refusal j ≡ first_of (sheet_tests j.moves j.labels ++ formula_tests_of j)
    unfolding text_refusal text_tests first_of
    by_parts = rw h refl

    pub refused_by_sheet : (k : ℕ) → first_of (sheet_tests j.moves j.labels) ≡ Some k → text_refusal j ≡ Some k
    refused_by_sheet k e = by_parts ∙ first_found _ (formula_tests_of j) k e

    pub left_to_formula : first_of (sheet_tests j.moves j.labels) ≡ None
        → text_refusal j ≡ first_of (formula_tests (job_sheet j).names (top_rate (job_chain j)) (read_formula j.formula))
    left_to_formula e = by_parts ∙ first_after _ (formula_tests_of j) (first_none _ e)

pub passed : (j : Job) → text_refusal j ≡ None → Passed j
unfolding text_refusal text_tests NoneHolds
passed j h =
    let n : NoneHolds (sheet_tests j.moves j.labels ++ formula_tests_of j) = (first_none (text_tests j) h).1 in
    record {
      sheet = sheet_passed j.moves j.labels (none_left _ (formula_tests_of j) n);
      formula = formula_passed _ _ _ (none_right (sheet_tests j.moves j.labels) _ n);
    }

-- the outcome, by the texts and then the buffers
module _ (j : Job) (lent : Buffers ℕ) where
  pub refused_by_texts : (k : ℕ) → text_refusal j ≡ Some k → outcome j lent ≡ refused k
  unfolding outcome outcome_by refusal text_refusal
  refused_by_texts k h = ap (outcome_by j) (first_found (text_tests j) (test 15 (short_buffer j lent) ∷ []) k h)

  left : text_refusal j ≡ None → refusal j lent ≡ first_of (test 15 (short_buffer j lent) ∷ [])
  unfolding refusal text_refusal
  left h = first_after (text_tests j) (test 15 (short_buffer j lent) ∷ []) (first_none (text_tests j) h)

  pub refused_by_lengths : text_refusal j ≡ None → short_buffer j lent ≡ true → outcome j lent ≡ refused 15
  unfolding outcome outcome_by first_of
  refused_by_lengths h b = let e : refusal j lent ≡ Some 15 = left h ∙ rw b refl in ap (outcome_by j) e

  pub accepted_by_all : text_refusal j ≡ None → short_buffer j lent ≡ false
      → outcome j lent ≡ accepted (job_chain j) (job_formula j) (top_rate (job_chain j)) (depth_of (job_chain j) (job_formula j))
  unfolding outcome outcome_by first_of
  accepted_by_all h b = let e : refusal j lent ≡ None = left h ∙ rw b refl in ap (outcome_by j) e

  -- of an accepted job no buffer is too short
  pub accepted_long : refusal j lent ≡ None → short_buffer j lent ≡ false
  unfolding refusal NoneHolds
  accepted_long h =
      (first_none (test 15 (short_buffer j lent) ∷ []) (none_right (text_tests j) (test 15 (short_buffer j lent) ∷ []) (first_none _ h))).0
