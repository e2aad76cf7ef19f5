-- Tests 3 to 9, in their order, by the facts of two texts whose layouts are right. Assumes nothing.
use mathlib.Core.Path.{◌≡◌, refl, sym, ap, ◌∙◌}
use Prim.Native.Nat.{ℕ, ◌≤◌, ◌<◌}
use mathlib.Core.Bool.{Bool, true, false, cond, not, ◌&&◌, ◌||◌}
use Rattle.std.specs.Prelude.{Option, None, Some, Result, ok_or}
use Rattle.verdicts.specs.Refusal.{refusal_in}
use Rattle.verdicts.specs.declared.refusal.Refusal.{Refusal}
use Rattle.verdicts.specs.declared.refusal.Refusal.TheVariants.{WrongRate}
use lib.Dec.{ltb, eqb}
use borrow.Author.Tests.{lt-ltb, le-ltb}
use Rattle.csl.specs.Text.{Text}
use Rattle.csl.specs.Limits.{most_states, most_moves}
use Rattle.csl.specs.Labels.{labels_layout, states_of}
use Rattle.csl.specs.Moves.{moves_head, moves_layout, moves_of, rates_out}
use Rattle.csl.specs.Chain.{greatest}
use Rattle.accepted.specs.Rates.{others}
use Rattle.csl.specs.Refusal.{wrong_first_line, wrong_states, many_moves, strange_state, wrong_rate, three_to_nine, first_of}
use Rattle.accepted.specs.Order.{neither}
use Rattle.moves.specs.Facts as m
use Rattle.moves.specs.declared.facts.MovesFacts.{MovesFacts}
use Rattle.labels.specs.Facts as l
use Rattle.labels.specs.declared.facts.LabelsFacts.{LabelsFacts}
use Rattle.refusals.specs.Sheet.{Facts}

-- what facts that were read say of their text
pub labels_right : (labels : Text) {b : LabelsFacts} → l.labels_facts labels ≡ Some b → (labels_layout labels ≡ true) × (b ≡ l.facts_in labels)
unfolding l.labels_facts
labels_right labels {b} = go (labels_layout labels)
  where
    go : (x : Bool) → cond x (Some (l.facts_in labels)) None ≡ Some b → (x ≡ true) × (b ≡ l.facts_in labels)
    go true e = (refl, cc)
    go false e = absurd cc

pub moves_right : (n : ℕ) (moves : Text) {a : MovesFacts} → m.moves_facts n moves ≡ Some a
    → (moves_layout moves ≡ true) × (a ≡ m.facts_in n (moves_head moves) (moves_of moves))
unfolding m.moves_facts
moves_right n moves {a} = go (moves_layout moves)
  where
    go : (x : Bool) → cond x (Some (m.facts_in n (moves_head moves) (moves_of moves))) None ≡ Some a
        → (x ≡ true) × (a ≡ m.facts_in n (moves_head moves) (moves_of moves))
    go true e = (refl, cc)
    go false e = absurd cc

module _ {moves labels : Text} {a : MovesFacts} {b : LabelsFacts} (k : Facts moves labels a b) where
  labels_are : b ≡ l.facts_in labels
  labels_are = (labels_right labels k.of_labels).1

  moves_are : a ≡ m.facts_in (states_of labels) (moves_head moves) (moves_of moves)
  moves_are = (moves_right b.states moves k.of_moves).1 ∙ ap (λ (x : LabelsFacts). m.facts_in x.states (moves_head moves) (moves_of moves)) labels_are

  -- 3 to 6, and 9 where 4 and 6 do not hold
  first_lines_told : not (a.head && b.head) ≡ wrong_first_line moves labels
  unfolding wrong_first_line
  first_lines_told = rw (moves_are, labels_are)

  states_told : (eqb b.states 0 || ltb most_states b.states || not b.turn) ≡ wrong_states labels
  unfolding wrong_states
  states_told = rw labels_are

  count_told : ltb most_moves a.count ≡ many_moves (moves_of moves)
  unfolding many_moves
  count_told = rw moves_are

  strange_told : a.strange ≡ strange_state (states_of labels) (moves_of moves)
  strange_told = rw moves_are

  rates_told : (eqb b.states 0 || ltb most_states b.states || not b.turn) ≡ false → a.strange ≡ false
      → a.top ≡ cond (not (wrong_rate (moves_of moves))) (Some (greatest (rates_out (others (moves_of moves))) (states_of labels))) None
  rates_told h4 h6 =
      let few : ltb most_states (states_of labels) ≡ false
      = rw labels_are at (neither (eqb b.states 0) _ (neither _ (not b.turn) h4).0).1 in
      rw moves_are (rw (few, sym strange_told ∙ h6) refl)

top_none : (w : Bool) (g : ℕ) {o : Option ℕ} → o ≡ cond (not w) (Some g) None → o ≡ None → w ≡ true
top_none true g e h = refl
top_none false g e h = absurd cc

top_some : (w : Bool) (g : ℕ) {q : ℕ} {o : Option ℕ} → o ≡ cond (not w) (Some g) None → o ≡ Some q → w ≡ false
top_some true g e h = absurd cc
top_some false g e h = refl

-- each answer, by the conditions before it
module _ (a : MovesFacts) (b : LabelsFacts) where
  abbrev Answered : Option ℕ → Type 0
  Answered r = (moves labels : Text) → Facts moves labels a b → r ≡ first_of (three_to_nine moves labels)

  pub at_3 : not (a.head && b.head) ≡ true → Answered (Some 3)
  unfolding first_of
  at_3 h moves labels k = rw (sym (first_lines_told k) ∙ h)

  module _ (h3 : not (a.head && b.head) ≡ false) where
    pub at_4 : (eqb b.states 0 || ltb most_states b.states || not b.turn) ≡ true → Answered (Some 4)
    unfolding first_of
    at_4 h moves labels k = rw (sym (first_lines_told k) ∙ h3, sym (states_told k) ∙ h)

    module _ (h4 : (eqb b.states 0 || ltb most_states b.states || not b.turn) ≡ false) where
      -- 5 and on
      first_from5 : (moves labels : Text) → Facts moves labels a b
          → first_of (three_to_nine moves labels)
          ≡ cond (ltb most_moves a.count) (Some 5) (cond a.strange (Some 6) (cond (wrong_rate (moves_of moves)) (Some 9) None))
      unfolding first_of
      first_from5 moves labels k =
          rw (sym (first_lines_told k) ∙ h3, sym (states_told k) ∙ h4, sym (count_told k), sym (strange_told k))

      pub at_5 : most_moves < a.count → Answered (Some 5)
      at_5 h moves labels k = rw (first_from5 moves labels k, lt-ltb most_moves a.count h)

      module _ (h5 : a.count ≤ most_moves) where
        pub at_6 : a.strange ≡ true → Answered (Some 6)
        at_6 h moves labels k = rw (first_from5 moves labels k, le-ltb most_moves a.count h5, h)

        module _ (h6 : a.strange ≡ false) where
          at_9 : a.top ≡ None → Answered (Some 9)
          at_9 h moves labels k =
              rw (first_from5 moves labels k, le-ltb most_moves a.count h5, h6, top_none _ _ (rates_told k h4 h6) h)

          at_end : {q : ℕ} → a.top ≡ Some q → Answered None
          at_end h moves labels k =
              rw (first_from5 moves labels k, le-ltb most_moves a.count h5, h6, top_some _ _ (rates_told k h4 h6) h)

          pub at_top : {r : Result ℕ Refusal} → r ≡ ok_or a.top WrongRate → Answered (refusal_in r)
          at_top {r} e moves labels k = go a.top refl
            where
              go : (o : Option ℕ) → a.top ≡ o → refusal_in r ≡ first_of (three_to_nine moves labels)
              go None h = rw (e, h) (at_9 h moves labels k)
              go (Some q) h = rw (e, h) (at_end h moves labels k)
