-- Two texts, from their tests to the copy. Assumes nothing.
use Rattle.std.specs.Prelude.{◌≡◌, refl, None, Some, Result, Err, List, [], ◌∷◌, ℕ, ◌≤◌, length}
use Rattle.std.proofs.Common.{sym, ap, arith}
use Rattle.csl.specs.Text.{Text}
use Rattle.csl.specs.Moves.{moves_of, rate_in}
use Rattle.csl.specs.Labels.{states_of}
use Rattle.csl.specs.Chain.{chain_of}
use Rattle.csl.specs.Refusal.{test, sheet_tests, first_of}
use Rattle.csl.specs.Copy.{copy_of, copy_text, short_copy, copy_refusal, CopiedBy, Copied}
use Rattle.accepted.specs.Order.{first_none, first_found, first_after}
use Rattle.accepted.specs.Sheet.{SheetPassed, sheet_passed}
use Rattle.refusals.specs.Sheet.{dimensions_of}
use Rattle.refusals.specs.declared.sheet_tests.Dimensions.{Dimensions}
use Rattle.verdicts.specs.Refusal.{number_of}
use Rattle.verdicts.specs.declared.refusal.Refusal.{Refusal}
use Rattle.clean_copy.specs.Row.{below_same}
use Rattle.clean_copy.specs.Laid.{laid_rate}
use Rattle.clean_copy.specs.Lay.{LayAsked, LaidFor}
use Rattle.clean_copy.specs.Whole.{laid_copy}
use Rattle.clean_copy.specs.Answer.{answer_of, short_for, CopiedAs}

module _ (moves labels : Text) where
  -- refused
  pub copy_refused_lem : (before : List ℕ) {k : Refusal} (a : Result ℕ Refusal) → Some (number_of k) ≡ first_of (sheet_tests moves labels) → a ≡ Err k
      → Copied moves labels before (answer_of a) before
  unfolding Copied CopiedBy copy_refusal
  copy_refused_lem before {k} a q e = rw (e, first_found (sheet_tests moves labels) _ (number_of k) (sym q)) (refl, refl)

  -- passed
  module _ (passes : None ≡ first_of (sheet_tests moves labels)) {sheet : Dimensions} (is : sheet ≡ dimensions_of moves labels) where
    passed : SheetPassed moves labels
    passed = sheet_passed moves labels (sym passes)

    states_are : sheet.states ≡ states_of labels
    states_are = ap (λ (d : Dimensions). d.states) is

    moves_are : sheet.moves ≡ length (moves_of moves)
    moves_are = ap (λ (d : Dimensions). d.moves) is

    pub few_moves : sheet.moves ≤ 4096
    few_moves = omega (arith, moves_are, passed.sound.few_moves)

    pub may_lay : (words columns : List ℕ) → 8192 ≤ length words → 1536 ≤ length columns
        → LayAsked moves sheet.moves sheet.states words columns
    may_lay words columns w c =
        record {
          labels = labels;
          passed = passed;
          count = moves_are;
          states = states_are;
          room = omega (arith, few_moves);
          long = omega (arith, states_are, passed.sound.few_states);
        }

    -- 17 is tested last
    same_refusal : (lent : ℕ) → copy_refusal moves labels lent ≡ short_for (copy_text moves labels) lent
    unfolding copy_refusal first_of
    same_refusal lent = first_after (sheet_tests moves labels) (test 17 (short_copy moves labels lent) ∷ []) (first_none (sheet_tests moves labels) (sym passes))

    -- what is laid has the copy of the texts
    module _ {rows columns : List ℕ} (l : LaidFor (moves_of moves) sheet.states rows columns) where
      same_copy : laid_copy rows columns sheet.states ≡ copy_text moves labels
      unfolding laid_copy copy_of chain_of
      same_copy =
          rw (below_same (laid_rate rows columns sheet.states) (rate_in (moves_of moves)) sheet.states sheet.states l.rates, states_are) refl

      pub copy_made : (before after : List ℕ) (a : Result ℕ Refusal) → CopiedAs (laid_copy rows columns sheet.states) before a after
          → Copied moves labels before (answer_of a) after
      unfolding Copied
      copy_made before after a c = rw (same_refusal (length before)) (rw same_copy at c)
