-- What follows for imports of PRISM's files: what is imported passes a typed sheet's tests, and says what the files say. Nothing here speaks of a
-- program. Assumes nothing.
use Rattle.std.specs.Prelude.{◌≡◌, false, not, ◌&&◌, ◌||◌, length, get_or, eqb, ltb, None}
use Rattle.std.proofs.Math.Path.{refl}
use Rattle.std.proofs.Common.{sym, ◌∙◌, arith, length-append}
use Rattle.std.proofs.Math.Bool.{true, and-eq-true_iff}
use mathlib.Core.List.{List, [], ◌∷◌, ◌++◌}
use Prim.Native.Nat.{ℕ, ◌^◌, ◌≤◌, ◌<◌}
use borrow.Author.Tests.{not-false, eqb-true, ne_eqb}
use Rattle.csl.specs.Text.{Text, bytes, every}
use Rattle.csl.specs.Limits.{sheet_digits, sheet_bytes}
use Rattle.csl.specs.Number.{is_number, value_of}
use Rattle.csl.specs.Line.{line_feed, first_line, later_lines, is_ended}
use Rattle.csl.specs.Labels.{is_word, names_of, labels_layout, states_of, mark_at}
use Rattle.csl.specs.Moves.{Move, moves_of, moves_layout}
use Rattle.csl.specs.Refusal.{out_of_bytes, broken_layout, strange_state, three_to_nine, sheet_tests, first_of}
use Rattle.csl.specs.Copy.{moves_text, lines_text}
use Rattle.csl.specs.Import.{Files, words_of, numbers_line, transitions_layout, states_counted, transitions_counted, transitions_of, quoted_names, label_lines, label_file_layout, holds_at, ended_text, fields_text, labels_text, imported_moves, imported_labels, miscounts, file_tests, result_tests, import_refusal}
use Rattle.csl.proofs.Laws.Decimal.{number_below}
use Rattle.accepted.specs.Order.{neither, NoneHolds, first_none, none_left, none_right}
use Rattle.same_chain.specs.MovesText.{moves_read}
use Rattle.imported.specs.Moves.{imported_layout}
use Rattle.imported.specs.Labels as labels

-- the first of two numbers on a line
first_below : (line : Text) → numbers_line 2 line ≡ true → value_of (get_or (words_of line) 0 []) < 10 ^ 9
unfolding numbers_line every
first_below line h =
    let k = (and-eq-true_iff (eqb (length (words_of line)) 2) (every (is_number sheet_digits) (words_of line))).0 h in
    go (words_of line) (eqb-true _ 2 k.0) k.1
  where
    go : (ws : List Text) → length ws ≡ 2 → every (is_number sheet_digits) ws ≡ true → value_of (get_or ws 0 []) < 10 ^ 9
    go [] e p = absurd (omega arith)
    go (w ∷ ws) e p = number_below 9 w ((and-eq-true_iff (is_number sheet_digits w) (every (is_number sheet_digits) ws)).0 p).0

-- T15. Two files of which no test of the files themselves holds: 1, 2, 18, 19.
module _ (f : Files) (passed : first_of (file_tests f) ≡ None) where
  none_holds : NoneHolds (file_tests f)
  none_holds = first_none (file_tests f) passed

  layouts : (transitions_layout f.transitions ≡ true) × (label_file_layout f.labels ≡ true)
  unfolding NoneHolds file_tests
  layouts = (and-eq-true_iff (transitions_layout f.transitions) (label_file_layout f.labels)).0 (not-false _ none_holds.1.0)

  counts : miscounts f ≡ false
  unfolding NoneHolds file_tests
  counts = none_holds.1.1.0

  words : every is_word (quoted_names f.labels) ≡ true
  unfolding NoneHolds file_tests
  words = not-false _ none_holds.1.1.1.0

  few_states : states_counted f.transitions ≤ 10 ^ 9
  unfolding states_counted transitions_layout
  few_states =
      let k = (and-eq-true_iff (is_ended f.transitions && numbers_line 2 (first_line f.transitions)) (every (numbers_line 3) (later_lines f.transitions))).0 layouts.0 in
      let h = ((and-eq-true_iff (is_ended f.transitions) (numbers_line 2 (first_line f.transitions))).0 k.0).1 in
      omega (arith, first_below (first_line f.transitions) h)

  -- "moves line for line in the file's order": the moves that are read are the file's transitions, in their order
  pub moves_are_the_file's : moves_of (imported_moves f) ≡ transitions_of f.transitions
  unfolding imported_moves
  moves_are_the_file's = moves_read (transitions_of f.transitions)

  -- "labels in the order of their numbers", and as many states as the file says
  pub names_are_the_file's : names_of (imported_labels f) ≡ quoted_names f.labels
  unfolding imported_labels
  names_are_the_file's = labels.names_read (quoted_names f.labels) words (holds_at (label_lines f.labels)) (states_counted f.transitions)

  pub states_are_the_file's : states_of (imported_labels f) ≡ states_counted f.transitions
  unfolding imported_labels
  states_are_the_file's = labels.states_read (quoted_names f.labels) words (holds_at (label_lines f.labels)) (states_counted f.transitions)

  -- a label is marked at a state where a line of the file says that it holds there, and nowhere else
  pub marks_are_the_file's : (s i : ℕ) → s < states_counted f.transitions → i < length (quoted_names f.labels)
      → mark_at (imported_labels f) s i ≡ holds_at (label_lines f.labels) s i
  unfolding imported_labels
  marks_are_the_file's = labels.mark_read (quoted_names f.labels) words (holds_at (label_lines f.labels)) (states_counted f.transitions)

  -- both texts have their layout right, and no move names a state that labels lack: of a sheet's tests 2 and 6 do not hold
  pub layouts_are_right : broken_layout (imported_moves f) (imported_labels f) ≡ false
  unfolding broken_layout imported_labels
  layouts_are_right =
      let m : moves_layout (imported_moves f) ≡ true = imported_layout f layouts.0 in
      let l : labels_layout (labels_text (quoted_names f.labels) (holds_at (label_lines f.labels)) (states_counted f.transitions)) ≡ true
      = labels.layout_read (quoted_names f.labels) words (holds_at (label_lines f.labels)) (states_counted f.transitions) few_states in
      rw (m, l) refl

  pub states_are_known : strange_state (states_of (imported_labels f)) (moves_of (imported_moves f)) ≡ false
  unfolding miscounts
  states_are_known =
      let n : ℕ = states_counted f.transitions in
      let ms : List Move = transitions_of f.transitions in
      let k = neither (not (eqb (transitions_counted f.transitions) (length ms)) || strange_state n ms) _ counts in
      rw (states_are_the_file's, moves_are_the_file's) (neither (not (eqb (transitions_counted f.transitions) (length ms))) (strange_state n ms) k.0).1

-- neither text is empty
some_bytes : (n : ℕ) (t : Text) → 1 ≤ length t → ltb n (length t) ≡ false → out_of_bytes n t ≡ false
some_bytes n t h k = rw (ne_eqb (length t) 0 (λ (e : length t ≡ 0). absurd (omega arith)), k) refl

ended_line : (l t : Text) → 1 ≤ length (l ++ (line_feed ∷ t))
ended_line l t = omega (arith, length-append l (line_feed ∷ t))

module _ (f : Files) where
  some_moves : 1 ≤ length (imported_moves f)
  unfolding imported_moves moves_text
  some_moves = ended_line (bytes "from,to,rate") (lines_text (transitions_of f.transitions))

  some_labels : 1 ≤ length (imported_labels f)
  unfolding imported_labels labels_text ended_text
  some_labels = ended_line (bytes "state" ++ fields_text (quoted_names f.labels)) _

-- "checked by 3 to 9 like typed ones": where no test of the files holds, results of at most 61,440 bytes are turned back as they are when typed,
-- whatever buffers are lent, but that 15 comes last; and so what is imported passes a typed sheet's tests 1 to 9
module _ (f : Files) (passed : first_of (file_tests f) ≡ None) (small : ltb sheet_bytes (length (imported_moves f)) ≡ false)
    (short : ltb sheet_bytes (length (imported_labels f)) ≡ false) where
  pub checked_as_typed : first_of (three_to_nine (imported_moves f) (imported_labels f)) ≡ first_of (sheet_tests (imported_moves f) (imported_labels f))
  unfolding sheet_tests first_of
  checked_as_typed =
      rw (
        some_bytes sheet_bytes (imported_moves f) (some_moves f) small,
        some_bytes sheet_bytes (imported_labels f) (some_labels f) short,
        layouts_are_right f passed,
      ) refl

pub imports_pass : (f : Files) (a b : ℕ) → import_refusal f a b ≡ None → first_of (sheet_tests (imported_moves f) (imported_labels f)) ≡ None
unfolding import_refusal result_tests NoneHolds
imports_pass f a b h =
    let typed : List _ = three_to_nine (imported_moves f) (imported_labels f) in
    let k : NoneHolds (file_tests f ++ (typed ++ result_tests f a b)) = first_none _ h in
    let passed : first_of (file_tests f) ≡ None = none_left (file_tests f) _ k in
    let behind : NoneHolds (typed ++ result_tests f a b) = first_none _ (none_right (file_tests f) _ k) in
    let last : NoneHolds (result_tests f a b) = first_none _ (none_right typed (result_tests f a b) behind) in
    let bytes = neither (ltb sheet_bytes (length (imported_moves f))) (ltb sheet_bytes (length (imported_labels f))) last.0 in
    sym (checked_as_typed f passed bytes.0 bytes.1) ∙ none_left typed (result_tests f a b) behind
