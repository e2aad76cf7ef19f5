-- From a copy that was made, or refused, to the text that is printed. Assumes nothing.
use mathlib.Core.Path.{◌≡◌, refl, ap, ◌∙◌}
use mathlib.Core.List.{List, [], ◌∷◌, ◌++◌}
use Rattle.std.specs.Prelude.{Option, None, Some, Result, Ok, Err}
use Prim.Native.Nat.{ℕ, ◌≤◌}
use native.Mathlib.Omega.{arith}
use lib.ListN.{length}
use lib.Dec.{eqb, ltb}
use borrow.Author.Tests.{ltb-false, le-ltb}
use Rattle.csl.specs.Text.{Text}
use Rattle.csl.specs.Limits.{sheet_bytes}
use Rattle.csl.specs.Report.{refusal_text}
use Rattle.csl.specs.Lent.{written}
use Rattle.csl.specs.Refusal.{out_of_bytes, Test, test, sheet_tests, first_of}
use Rattle.csl.specs.Copy.{copied, copy_refused, copy_text, short_copy, copy_refusal, CopiedBy, Copied}
use Rattle.accepted.specs.Order.{neither, NoneHolds, first_none, first_found, first_after}
use Rattle.same_chain.specs.Copies.{copy_short}
use Rattle.console.specs.Counts.{IsPrefixLen}
use Rattle.console.proofs.Counting.{prefix_len_of_le}
use Rattle.decimals.specs.Place.{written_at, Room, Wrote}
use Rattle.decimals.specs.Writing.{written_length}
use Rattle.report.specs.Refused.{refusal_few}
use Rattle.clean_copy.specs.Answer.{answer_of}
use Rattle.clean_copy.specs.Number.{copy_number_most}
use Rattle.verdicts.specs.Refusal.{number_of}
use Rattle.verdicts.specs.declared.refusal.Refusal.{Refusal}
use Rattle.sheetcopy.specs.Prints.{printed_copy, CopyWritten}

module _ (moves labels : Text) where
  -- a moves text that passed is not over its byte limit
  moves_few : first_of (sheet_tests moves labels) ≡ None → length moves ≤ sheet_bytes
  unfolding NoneHolds sheet_tests
  moves_few e =
      let n = first_none (sheet_tests moves labels) e in
      ltb-false _ _
      (neither (eqb (length moves) 0) (ltb sheet_bytes (length moves))
      (neither (out_of_bytes sheet_bytes moves) (out_of_bytes sheet_bytes labels) n.0).0).1

  module _ (before : List ℕ) (big : sheet_bytes ≤ length before) where
    copy_few : first_of (sheet_tests moves labels) ≡ None → length (copy_text moves labels) ≤ length before
    copy_few e = omega (arith, copy_short moves labels e, moves_few e)

    -- the buffer is long enough for every copy, so that the refusal is that of the two texts
    by_texts : copy_refusal moves labels (length before) ≡ first_of (sheet_tests moves labels)
    unfolding copy_refusal first_of
    by_texts = go (first_of (sheet_tests moves labels)) refl
      where
        last : List Test
        last = test 17 (short_copy moves labels (length before)) ∷ []

        go : (o : Option ℕ) → first_of (sheet_tests moves labels) ≡ o → first_of (sheet_tests moves labels ++ last) ≡ o
        go (Some k) e = first_found (sheet_tests moves labels) last k e
        go None e =
            first_after (sheet_tests moves labels) last (first_none (sheet_tests moves labels) e)
            ∙ rw (le-ltb (length before) (length (copy_text moves labels)) (copy_few e)) refl

    -- the text that was written is the one that is printed
    shown : (text new : List ℕ) → length text ≤ length before → new ≡ written text before → IsPrefixLen (length text) new
    unfolding written_at
    shown text new h e = prefix_len_of_le _ _ (omega (arith, ap length e, written_length 0 text before (omega arith)))

    module _ (a : Result ℕ Refusal) (after : List ℕ) (c : Copied moves labels before (answer_of a) after) where
      -- copied
      pub copy_printed : (n : ℕ) → a ≡ Ok n → IsPrefixLen n after × CopyWritten moves labels before after (record { length = n; refusal = None })
      unfolding Copied CopiedBy printed_copy
      copy_printed n e = go (first_of (sheet_tests moves labels)) refl (rw by_texts at c)
        where
          go : (o : Option ℕ) → first_of (sheet_tests moves labels) ≡ o → CopiedBy o (copy_text moves labels) before (answer_of a) after
              → IsPrefixLen n after × CopyWritten moves labels before after (record { length = n; refusal = None })
          go (Some k) q t =
              let d : copied n ≡ copy_refused k = rw e at t.0 in
              let z : ◌≡◌ {A = ℕ} 0 1 = cc in
              absurd (omega arith)
          go None q t =
              let d : copied n ≡ copied (length (copy_text moves labels)) = rw e at t.0 in
              let m : n ≡ length (copy_text moves labels) = cc in (
                rw m (shown (copy_text moves labels) after (copy_few q) t.1),
                record { count = rw q m; number = rw q refl; buffer = rw q t.1 },
              )

      -- refused: the number is that of the texts, and the buffer is as it was
      known : (k : Refusal) → a ≡ Err k → (first_of (sheet_tests moves labels) ≡ Some (number_of k)) × (after ≡ before)
      unfolding Copied CopiedBy
      known k e = go (first_of (sheet_tests moves labels)) refl (rw by_texts at c)
        where
          go : (o : Option ℕ) → first_of (sheet_tests moves labels) ≡ o → CopiedBy o (copy_text moves labels) before (answer_of a) after
              → (first_of (sheet_tests moves labels) ≡ Some (number_of k)) × (after ≡ before)
          go (Some j) q t =
              let d : copy_refused (number_of k) ≡ copy_refused j = rw e at t.0 in
              let m : number_of k ≡ j = cc in
              (rw m q, t.1)
          go None q t =
              let d : copy_refused (number_of k) ≡ copied (length (copy_text moves labels)) = rw e at t.0 in
              let z : ◌≡◌ {A = ℕ} 0 1 = cc in
              absurd (omega arith)

      module _ {number : ℕ} (k : Refusal) (e : a ≡ Err k) (m : number ≡ number_of k) where
        refused_is : first_of (sheet_tests moves labels) ≡ Some number
        refused_is = rw m (known k e).0

        text_few : length (refusal_text number) ≤ length before
        text_few = omega (arith, refusal_few number (omega (arith, copy_number_most moves labels (length before) number (by_texts ∙ refused_is))))

        pub refusal_room : Room 0 (refusal_text number) after
        refusal_room = omega (arith, text_few, ap length (known k e).1)

        pub refusal_printed : {r : ℕ} {new : List ℕ} → Wrote 0 (refusal_text number) after new r
            → IsPrefixLen r new × CopyWritten moves labels before new (record { length = r; refusal = Some k })
        unfolding printed_copy written_at
        refusal_printed {r} {new} w =
            let n : r ≡ length (refusal_text number) = w.after ∙ omega arith in
            let b : new ≡ written (refusal_text number) before = w.holds ∙ rw (known k e).1 refl in (
              rw n (shown (refusal_text number) new text_few b),
              record { count = rw refused_is n; number = rw (refused_is, m) refl; buffer = rw refused_is b },
            )
