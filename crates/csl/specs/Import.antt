-- Import of PRISM's explicit files: "Operators model in PRISM. Read its transition file .. and its label file .. The result is our two texts".
-- Assumes nothing.
use Rattle.std.specs.Prelude.{◌≡◌, ℕ, zero, suc, Bool, true, false, cond, not, ◌&&◌, ◌||◌, length, get_or, leb, ltb, eqb, Option, None, Some}
use mathlib.Core.List.{List, [], ◌∷◌, ◌++◌, map, head_d, tail}
use Rattle.csl.specs.Text.{Text, bytes, same, every, any}
use Rattle.csl.specs.Limits.{sheet_digits, sheet_bytes}
use Rattle.csl.specs.Number.{is_number, value_of}
use Rattle.csl.specs.Line.{line_feed, comma, space, parts, first_line, later_lines, is_ended}
use Rattle.csl.specs.Labels.{is_word}
use Rattle.csl.specs.Moves.{Move}
use Rattle.csl.specs.Order.{by_number}
use Rattle.csl.specs.Report.{decimal}
use Rattle.csl.specs.Lent.{written}
use Rattle.csl.specs.Refusal.{out_of_bytes, strange_state, Test, test, three_to_nine, first_of}
use Rattle.csl.specs.Copy.{moves_text}

pub record Files : Type 0 where
  pub transitions : Text
  pub labels : Text

-- what single spaces set apart in a line, and the number there
abbrev pub words_of : Text → List Text
words_of line = parts space line

abbrev pub word_value : Text → ℕ → ℕ
word_value line i = value_of (get_or (words_of line) i [])

-- "first line: states and transitions; then `from to rate` with single spaces". "Rates must be whole and count per million hours": "a rate with a
-- point" is no number.
unfoldable pub numbers_line : ℕ → Text → Bool
numbers_line count line = eqb (length (words_of line)) count && every (is_number sheet_digits) (words_of line)

unfoldable pub transitions_layout : Text → Bool
transitions_layout file = is_ended file && numbers_line 2 (first_line file) && every (numbers_line 3) (later_lines file)

unfoldable pub states_counted : Text → ℕ
states_counted file = word_value (first_line file) 0

unfoldable pub transitions_counted : Text → ℕ
transitions_counted file = word_value (first_line file) 1

unfoldable pub transition_of : Text → Move
transition_of line = record { from = word_value line 0; to = word_value line 1; rate = word_value line 2 }

unfoldable pub transitions_of : Text → List Move
transitions_of file = map transition_of (later_lines file)

-- "first line one or more numbered quoted names as `0="init"`, of any bytes but quote and line feed, set apart by one space": what quotes set apart
-- is a number, a name, a number, a name and so on; "names not numbered up from 0" are refused, and behind the last name stands nothing
abbrev pub quote : ℕ
quote = 34

unfoldable pub name_number : ℕ → Text
name_number zero = bytes "0="
name_number (suc k) = space ∷ (decimal (suc k) ++ bytes "=")

-- the parts from the number of the k-th name on
unfoldable pub numbered_from : ℕ → List Text → Bool
numbered_from k [] = false
numbered_from k (end ∷ []) = same end [] && leb 1 k
numbered_from k (number ∷ name ∷ more) = same number (name_number k) && numbered_from (suc k) more

unfoldable pub quoted_in : List Text → List Text
quoted_in [] = []
quoted_in (end ∷ []) = []
quoted_in (number ∷ name ∷ more) = name ∷ quoted_in more

unfoldable pub quoted_names : Text → List Text
quoted_names file = quoted_in (parts quote (first_line file))

-- "then lines as `3: 0 2`, states without labels left out": a state, and the numbers of the labels that hold there
pub record LabelLine : Type 0 where
  pub state : ℕ
  pub labels : List ℕ

abbrev pub colon : ℕ
colon = 58

unfoldable pub label_line_of : Text → LabelLine
label_line_of line =
    record { state = value_of (head_d (parts colon (head_d (words_of line) [])) []); labels = map value_of (tail (words_of line)) }

unfoldable pub label_lines : Text → List LabelLine
label_lines file = map label_line_of (later_lines file)

-- a number and a colon, from what colons set apart
unfoldable pub is_state_key : List Text → Bool
is_state_key [] = false
is_state_key (number ∷ []) = false
is_state_key (number ∷ end ∷ []) = is_number sheet_digits number && same end []
is_state_key (number ∷ end ∷ more ∷ others) = false

-- rising, and none below `least`
unfoldable pub rising_from : ℕ → List ℕ → Bool
rising_from least [] = true
rising_from least (a ∷ l) = leb least a && rising_from (suc a) l

-- a line where there are so many names: "the labels in one not rising, or a label unnamed is 2"
unfoldable pub label_line : ℕ → Text → Bool
label_line names line =
    is_state_key (parts colon (head_d (words_of line) [])) && leb 1 (length (tail (words_of line)))
    && every (is_number sheet_digits) (tail (words_of line)) && rising_from 0 (label_line_of line).labels
    && every (λ i. ltb i names) (label_line_of line).labels

-- "later label lines .. not rising" are 2 as well
unfoldable pub label_file_layout : Text → Bool
label_file_layout file =
    is_ended file && numbered_from 0 (parts quote (first_line file)) && every (label_line (length (quoted_names file))) (later_lines file)
    && rising_from 0 (map (λ l. l.state) (label_lines file))

-- a line says that the label of this number holds at the state
unfoldable pub holds_at : List LabelLine → (s i : ℕ) → Bool
holds_at ls s i = any (λ l. eqb l.state s && any (λ j. eqb j i) l.labels) ls

-- lines, each ended; fields, each behind a comma
unfoldable pub ended_text : List Text → Text
ended_text [] = []
ended_text (l ∷ ls) = l ++ (line_feed ∷ ended_text ls)

unfoldable pub fields_text : List Text → Text
fields_text [] = []
fields_text (f ∷ fs) = comma ∷ (f ++ fields_text fs)

-- the labels text of document 01: the names, and for each state below n "its number, .. and a 0 or 1 for each label"
abbrev pub mark_text : Bool → Text
mark_text holds = cond holds (bytes "1") (bytes "0")

unfoldable pub state_text : (ℕ → ℕ → Bool) → (names s : ℕ) → Text
state_text holds names s = decimal s ++ fields_text (map (λ i. mark_text (holds s i)) (by_number names))

unfoldable pub labels_text : List Text → (ℕ → ℕ → Bool) → (n : ℕ) → Text
labels_text names holds n = ended_text ((bytes "state" ++ fields_text names) ∷ map (state_text holds (length names)) (by_number n))

-- "The result is our two texts, moves line for line in the file's order, labels in the order of their numbers"
unfoldable pub imported_moves : Files → Text
imported_moves f = moves_text (transitions_of f.transitions)

unfoldable pub imported_labels : Files → Text
imported_labels f = labels_text (quoted_names f.labels) (holds_at (label_lines f.labels)) (states_counted f.transitions)

-- "18 when the transition file's first line miscounts the transitions, or a line of either file names a state not below its state count"
unfoldable pub miscounts : Files → Bool
miscounts f =
    not (eqb (transitions_counted f.transitions) (length (transitions_of f.transitions)))
    || strange_state (states_counted f.transitions) (transitions_of f.transitions)
    || any (λ l. leb (states_counted f.transitions) l.state) (label_lines f.labels)

-- "An empty file or one over 61,440 bytes is 1, and a broken line, .. is 2. .. 18 .., tested after 2. 19 when a quoted name is not 1 to 12 letters a to z,
-- tested after 18."
unfoldable pub file_tests : Files → List Test
file_tests f =
    test 1 (out_of_bytes sheet_bytes f.transitions || out_of_bytes sheet_bytes f.labels)
    ∷ test 2 (not (transitions_layout f.transitions && label_file_layout f.labels)) ∷ test 18 (miscounts f)
    ∷ test 19 (not (every is_word (quoted_names f.labels))) ∷ []

-- "Last, a result text over 61,440 bytes is 1, and one longer than its lent buffer 15."
unfoldable pub result_tests : Files → (moves labels : ℕ) → List Test
result_tests f moves labels =
    test 1 (ltb sheet_bytes (length (imported_moves f)) || ltb sheet_bytes (length (imported_labels f)))
    ∷ test 15 (ltb moves (length (imported_moves f)) || ltb labels (length (imported_labels f))) ∷ []

-- what the two files are turned back with, where buffers of these lengths are lent: the results are "checked by 3 to 9 like typed ones after 19"
unfoldable pub import_refusal : Files → (moves labels : ℕ) → Option ℕ
import_refusal f moves labels = first_of (file_tests f ++ (three_to_nine (imported_moves f) (imported_labels f) ++ result_tests f moves labels))

-- "the answer is the two lengths"
pub data ImportAnswer : Type 0 where
  import_refused : ℕ → ImportAnswer
  imported : (moves labels : ℕ) → ImportAnswer

-- the two lent buffers
pub record Pages : Type 0 where
  pub moves : List ℕ
  pub labels : List ℕ

-- turned back, with both buffers as they were; or each text at the front of its buffer, "and bytes beyond are unchanged"
unfoldable pub ImportedBy : Option ℕ → Files → (before : Pages) → ImportAnswer → (after : Pages) → Type 0
ImportedBy (Some number) f before a after = (a ≡ import_refused number) × (after ≡ before)
ImportedBy None f before a after =
    (a ≡ imported (length (imported_moves f)) (length (imported_labels f)))
    × (after ≡ record { moves = written (imported_moves f) before.moves; labels = written (imported_labels f) before.labels })

-- the answer and the buffers after an import are as this paper has them
unfoldable pub Imported : Files → (before : Pages) → ImportAnswer → (after : Pages) → Type 0
Imported f before a after = ImportedBy (import_refusal f (length before.moves) (length before.labels)) f before a after
