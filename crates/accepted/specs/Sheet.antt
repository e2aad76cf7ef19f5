-- What a sheet has whose two texts passed their tests: of the texts, and of the value that goes on from them. Assumes nothing.
use Rattle.std.specs.Prelude.{◌≡◌, true, false, not, ◌&&◌, ◌||◌, ℕ, ◌≤◌, length, None}
use Rattle.std.proofs.Math.Path.{sym}
use Rattle.std.proofs.Math.Bool.{Bool, and-eq-true_iff}
use mathlib.Core.List.{[], head_d}
use Rattle.std.proofs.Common.{arith}
use Rattle.std.proofs.Math.Dec.{leb, ltb, eqb}
use borrow.Author.Tests.{leb-true, ltb-false, eqb-false, not-false}
use Rattle.csl.specs.Text.{Text, bytes, same, every}
use Rattle.csl.specs.Limits.{most_names, most_states, most_moves, most_rate}
use Rattle.csl.specs.Line.{first_line, later_lines, fields_of}
use Rattle.csl.specs.Labels.{is_name, no_repeat, labels_head, labels_layout, in_turn, names_of, states_of}
use Rattle.csl.specs.Moves.{moves_head, moves_layout, moves_of, rates_out}
use Rattle.csl.specs.Sheet.{Sheet, sheet_of}
use Rattle.csl.specs.Chain.{chain_of, greatest, top_rate}
use Rattle.numbers.specs.Sum.{greatest_cong, greatest_most}
use Rattle.csl.specs.Refusal.{broken_layout, wrong_first_line, wrong_states, many_moves, strange_state, wrong_rate, sheet_tests, first_of}
use Rattle.accepted.specs.Order.{neither, NoneHolds, first_none}
use Rattle.accepted.specs.Rates.{Within, Moving, within_tested, rates_tested, moving_tested, others, others_slower, exit_by_lines}

-- a sheet that can be decided over: 01's limits hold of it
pub record Sound (sheet : Sheet) : Type 0 where
  pub some_state : 1 ≤ sheet.states
  pub few_states : sheet.states ≤ most_states
  pub few_names : length sheet.names ≤ most_names
  pub no_repeat_lem : no_repeat sheet.names ≡ true
  pub few_moves : length sheet.moves ≤ most_moves
  pub within : Within sheet.states sheet.moves
  pub slow : (s : ℕ) → rates_out sheet.moves s ≤ most_rate
  pub moving : Moving sheet.moves

module _ (sheet : Sheet) (k : Sound sheet) where
  -- q is the greatest sum of rates on the lines from one state to others, and no greater than such a sum may be
  pub top_is : greatest (rates_out (others sheet.moves)) sheet.states ≡ top_rate (chain_of sheet)
  unfolding top_rate chain_of
  top_is = greatest_cong _ _ sheet.states λ s l. sym (exit_by_lines sheet k.within s)

  pub top_slow : top_rate (chain_of sheet) ≤ most_rate
  top_slow =
      omega (
        arith,
        top_is,
        greatest_most (rates_out (others sheet.moves)) most_rate sheet.states λ s l. omega (arith, others_slower sheet.moves s, k.slow s),
      )

-- texts that passed
pub record SheetPassed (moves labels : Text) : Type 0 where
  pub moves_layout_lem : moves_layout moves ≡ true
  pub labels_layout_lem : labels_layout labels ≡ true
  pub labels_head_lem : labels_head labels ≡ true
  pub known_states : strange_state (states_of labels) (moves_of moves) ≡ false
  pub good_rates : wrong_rate (moves_of moves) ≡ false
  pub sound : Sound (sheet_of moves labels)

module _ (moves labels : Text) (n : NoneHolds (sheet_tests moves labels)) where
  layouts : (moves_layout moves ≡ true) × (labels_layout labels ≡ true)
  unfolding NoneHolds sheet_tests broken_layout
  layouts = (and-eq-true_iff (moves_layout moves) (labels_layout labels)).0 (not-false _ n.1.0)

  head : labels_head labels ≡ true
  unfolding NoneHolds sheet_tests wrong_first_line
  head = ((and-eq-true_iff (moves_head moves) (labels_head labels)).0 (not-false _ n.1.1.0)).1

  names : (leb (length (names_of labels)) most_names ≡ true) × (no_repeat (names_of labels) ≡ true)
  unfolding labels_head
  names =
      let word : Bool = same (head_d (fields_of (first_line labels)) []) (bytes "state") in
      let few : Bool = leb (length (names_of labels)) most_names in
      let k = (and-eq-true_iff (word && few && every is_name (names_of labels)) (no_repeat (names_of labels))).0 head in
      (((and-eq-true_iff word few).0 ((and-eq-true_iff (word && few) (every is_name (names_of labels))).0 k.0).0).1, k.1)

  states : (eqb (states_of labels) 0 ≡ false) × (ltb most_states (states_of labels) ≡ false)
  unfolding NoneHolds sheet_tests wrong_states
  states =
      let no : Bool = eqb (states_of labels) 0 in
      let many : Bool = ltb most_states (states_of labels) in
      neither no many (neither (no || many) (not (in_turn 0 (later_lines labels))) n.1.1.1.0).0

  sound_texts : Sound (sheet_of moves labels)
  unfolding NoneHolds sheet_tests many_moves
  sound_texts =
      record {
        some_state = let z : states_of labels ≡ 0 → ⊥ = eqb-false _ _ states.0 in omega arith;
        few_states = ltb-false _ _ states.1;
        few_names = leb-true _ _ names.0;
        no_repeat_lem = names.1;
        few_moves = ltb-false _ _ n.1.1.1.1.0;
        within = within_tested (states_of labels) (moves_of moves) n.1.1.1.1.1.0;
        slow = λ s. rates_tested (moves_of moves) n.1.1.1.1.1.1.0 s;
        moving = moving_tested (moves_of moves) n.1.1.1.1.1.1.0;
      }

pub sheet_passed : (moves labels : Text) → first_of (sheet_tests moves labels) ≡ None → SheetPassed moves labels
unfolding NoneHolds sheet_tests
sheet_passed moves labels h =
    let n : NoneHolds (sheet_tests moves labels) = first_none (sheet_tests moves labels) h in
    record {
      moves_layout_lem = (layouts moves labels n).0;
      labels_layout_lem = (layouts moves labels n).1;
      labels_head_lem = head moves labels n;
      known_states = n.1.1.1.1.1.0;
      good_rates = n.1.1.1.1.1.1.0;
      sound = sound_texts moves labels n;
    }
