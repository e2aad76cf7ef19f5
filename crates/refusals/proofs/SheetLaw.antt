-- Tests 1 to 9 of two texts: their lengths, then what is told from their facts. Assumes nothing.
use mathlib.Core.Path.{◌≡◌, refl, sym, ap, ◌∙◌}
use Prim.Native.Nat.{ℕ}
use mathlib.Core.Bool.{Bool, true, false, cond, ◌&&◌}
use Rattle.std.specs.Prelude.{Option, None, Some}
use borrow.Author.Tests.{le-ltb}
use Rattle.csl.specs.Text.{Text}
use Rattle.csl.specs.Limits.{most_states, sheet_bytes}
use Rattle.csl.specs.Moves.{moves_of, moves_head, moves_layout}
use Rattle.csl.specs.Sheet.{sheet_of}
use Rattle.csl.specs.Refusal.{out_of_bytes, broken_layout, three_to_nine, sheet_tests, first_of}
use Rattle.csl.specs.Labels.{labels_layout}
use Rattle.accepted.specs.Sheet.{SheetPassed, sheet_passed, top_is}
use Rattle.moves.specs.Facts as m
use Rattle.moves.specs.declared.facts.MovesFacts.{MovesFacts}
use Rattle.labels.specs.Facts as l
use Rattle.labels.specs.declared.facts.LabelsFacts.{LabelsFacts}
use Rattle.refusals.specs.Sheet.{Facts, dimensions_of}
use Rattle.refusals.proofs.JudgeLaw.{labels_right, moves_right}

and_false : (x : Bool) → (x && false) ≡ false
and_false true = refl
and_false false = refl

module _ (moves labels : Text) {x : Bool} (by_moves : x ≡ out_of_bytes sheet_bytes moves) where
  pub moves_out : x ≡ true → Some 1 ≡ first_of (sheet_tests moves labels)
  unfolding sheet_tests first_of
  moves_out p = rw (sym by_moves ∙ p)

  module _ (p : x ≡ false) {y : Bool} (by_labels : y ≡ out_of_bytes sheet_bytes labels) where
    pub labels_out : y ≡ true → Some 1 ≡ first_of (sheet_tests moves labels)
    unfolding sheet_tests first_of
    labels_out q = rw (sym by_moves ∙ p, sym by_labels ∙ q)

    module _ (q : y ≡ false) where
      pub labels_broken : l.labels_facts labels ≡ None → Some 2 ≡ first_of (sheet_tests moves labels)
      unfolding sheet_tests first_of broken_layout l.labels_facts
      labels_broken h = rw (sym by_moves ∙ p, sym by_labels ∙ q, go (labels_layout labels) h, and_false (moves_layout moves))
        where
          go : (x : Bool) → cond x (Some (l.facts_in labels)) None ≡ None → x ≡ false
          go true e = absurd cc
          go false e = refl

      pub moves_broken : (n : ℕ) → m.moves_facts n moves ≡ None → Some 2 ≡ first_of (sheet_tests moves labels)
      unfolding sheet_tests first_of broken_layout m.moves_facts
      moves_broken n h = rw (sym by_moves ∙ p, sym by_labels ∙ q, go (moves_layout moves) h)
        where
          go : (x : Bool) → cond x (Some (m.facts_in n (moves_head moves) (moves_of moves))) None ≡ None → x ≡ false
          go true e = absurd cc
          go false e = refl

      module _ {a : MovesFacts} {b : LabelsFacts} (of_labels : l.labels_facts labels ≡ Some b) (of_moves : m.moves_facts b.states moves ≡ Some a)
          {r : Option ℕ} (judged : (s t : Text) → Facts s t a b → r ≡ first_of (three_to_nine s t)) where
        pub judge_told : r ≡ first_of (sheet_tests moves labels)
        unfolding sheet_tests first_of broken_layout
        judge_told =
            rw (sym by_moves ∙ p, sym by_labels ∙ q, (moves_right b.states moves of_moves).0, (labels_right labels of_labels).0)
            (judged moves labels (record { of_labels = of_labels; of_moves = of_moves }))

        pub sheet_told : r ≡ None → {t : ℕ} → a.top ≡ Some t
            → record { states = b.states; moves = a.count; names = b.names; first = b.first; q = t } ≡ dimensions_of moves labels
        sheet_told e {t} top =
            let k : SheetPassed moves labels = sheet_passed moves labels (sym judge_told ∙ e) in
            let labels_are : b ≡ l.facts_in labels = (labels_right labels of_labels).1 in
            let moves_are : a ≡ m.facts_in (sheet_of moves labels).states (moves_head moves) (moves_of moves)
            = (moves_right b.states moves of_moves).1 ∙ rw labels_are refl in
            let top_right : a.top ≡ Some (dimensions_of moves labels).q
            = rw moves_are
            (rw (k.known_states, le-ltb most_states (sheet_of moves labels).states k.sound.few_states, k.good_rates)
            (ap (λ (n : ℕ). Some n) (top_is (sheet_of moves labels) k.sound))) in
            let q_right : t ≡ (dimensions_of moves labels).q = cc in
            rw (q_right, labels_are, moves_are)
