-- Turned-back jobs: "The lowest number that holds is given; a condition is put only to jobs that passed all lower ones in all three
-- texts." But for 16, which is tested before 14. Each test below is put to the whole of what it tests, and says something only of a job that
-- passed those before it. Assumes nothing.
use Rattle.std.specs.Prelude.{ℕ, ◌*◌, Bool, true, false, cond, not, ◌&&◌, ◌||◌, List, [], ◌∷◌, ◌++◌, length, leb, ltb, eqb, Option, None, Some}
use Rattle.csl.specs.Text.{Text, among, any}
use Rattle.csl.specs.Limits.{most_states, most_moves, most_rate, formula_bytes, sheet_bytes, most_nodes, most_levels, most_threshold, most_hundredths, most_rate_hundredths}
use Rattle.csl.specs.Line.{later_lines}
use Rattle.csl.specs.Labels.{labels_head, labels_layout, in_turn, states_of}
use Rattle.csl.specs.Moves.{Move, moves_head, moves_layout, moves_of, rates_out}
use Rattle.csl.specs.Formula.{Formula, always, PathOf, nodes, levels, labels_pass, times_pass, phases_pass, times_in_order, paths_pass}
use Rattle.csl.specs.Grammar.{read_formula}
use Rattle.csl.specs.Sheet.{Sheet, sheet_of}
use Rattle.csl.specs.Chain.{Chain, chain_of, top_rate}
use Rattle.csl.specs.Report.{depth_of}
use Rattle.csl.specs.Lent.{Buffers, needed, is_short}

pub record Job : Type 0 where
  pub moves : Text
  pub labels : Text
  pub formula : Text

-- what a job has that passed the tests for it: its sheet, chain and formula
abbrev pub job_sheet : Job → Sheet
job_sheet j = sheet_of j.moves j.labels

abbrev pub job_states : Job → ℕ
job_states j = (job_sheet j).states

abbrev pub job_moves : Job → List Move
job_moves j = (job_sheet j).moves

abbrev pub job_chain : Job → Chain
job_chain j = chain_of (job_sheet j)

unfoldable pub formula_from : Option Formula → Formula
formula_from None = always
formula_from (Some f) = f

abbrev pub job_formula : Job → Formula
job_formula j = formula_from (read_formula j.formula)

-- 1: "a text empty or over its byte limit"
abbrev pub out_of_bytes : ℕ → Text → Bool
out_of_bytes most t = eqb (length t) 0 || ltb most (length t)

-- 2: "a line after the first breaks its layout: .. or the last line feed is missing in either text"
unfoldable pub broken_layout : (moves labels : Text) → Bool
broken_layout moves labels = not (moves_layout moves && labels_layout labels)

-- 3: "a first line, or a name in it, is wrong; over 16 names"
unfoldable pub wrong_first_line : (moves labels : Text) → Bool
wrong_first_line moves labels = not (moves_head moves && labels_head labels)

-- 4: "no state, over 512, or numbers out of turn"
unfoldable pub wrong_states : Text → Bool
wrong_states labels = eqb (states_of labels) 0 || ltb most_states (states_of labels) || not (in_turn 0 (later_lines labels))

-- 5: "over 4,096 moves"
unfoldable pub many_moves : List Move → Bool
many_moves ms = ltb most_moves (length ms)

-- 6: "a move names a state that labels lack"
abbrev pub strange_state : ℕ → List Move → Bool
strange_state states ms = any (λ m. leb states m.from || leb states m.to) ms

-- 7, "a move to its own state", "is never given again": "such moves are now read and stored".

-- 8, "moves not rising, or a pair twice", "is never given again": "lines may stand in any order".

-- 9: "rate 0, or a state's rates over 64,000,000": it "looks at each line's rate and at the totals", in which moves to the own state count
abbrev pub wrong_rate : List Move → Bool
wrong_rate ms = any (λ m. eqb m.rate 0 || ltb most_rate (rates_out ms m.from)) ms

-- 10: "formula breaks the grammar"
unfoldable pub is_missing : Option Formula → Bool
is_missing None = true
is_missing (Some f) = false

-- 11: "over 64 nodes or 16 deep"
unfoldable pub large_formula : Formula → Bool
large_formula f = ltb most_nodes (nodes f) || ltb most_levels (levels f)

-- 12: "a label name not in the first line"
unfoldable pub strange_label : List Text → Formula → Bool
strange_label names f = not (labels_pass (among names) f)

-- 13: "threshold over 1,000,000,000 or hours over 8,760"; `X` has no hours, `V` two
abbrev pub in_bounds : ℕ → PathOf Formula → Bool
in_bounds p o = leb p most_threshold && times_pass (λ t. leb t most_hundredths) o

unfoldable pub wrong_bound : Formula → Bool
wrong_bound f = not (paths_pass in_bounds f)

-- 16: "when the first time exceeds the second, tested after 13 and before 14"
unfoldable pub wrong_times : Formula → Bool
wrong_times f = not (paths_pass (λ p o. times_in_order o) f)

-- 14: "q × t over 64,000,000 for some until"; "14 compares q × hundredths with 6,400,000,000"; "14 tests each phase"
abbrev pub in_load : ℕ → ℕ → PathOf Formula → Bool
in_load q p o = phases_pass (λ t. leb (q * t) most_rate_hundredths) o

unfoldable pub high_load : ℕ → Formula → Bool
high_load q f = not (paths_pass (in_load q) f)

-- 15: "a lent buffer too short"
unfoldable pub short_buffer : Job → Buffers ℕ → Bool
short_buffer j lent = is_short lent (needed (job_states j) (length (job_moves j)) (nodes (job_formula j)))

-- a number, and whether it holds
pub record Test : Type 0 where
  pub number : ℕ
  pub holds : Bool

abbrev pub test : ℕ → Bool → Test
test n b = record { number = n; holds = b }

-- "3 to 9", which are put to two texts whose layouts are right
abbrev pub three_to_nine : (moves labels : Text) → List Test
three_to_nine moves labels =
    test 3 (wrong_first_line moves labels) ∷ test 4 (wrong_states labels) ∷ test 5 (many_moves (moves_of moves))
    ∷ test 6 (strange_state (states_of labels) (moves_of moves)) ∷ test 9 (wrong_rate (moves_of moves)) ∷ []

-- the tests of a sheet's two texts, in their order
unfoldable pub sheet_tests : (moves labels : Text) → List Test
sheet_tests moves labels =
    test 1 (out_of_bytes sheet_bytes moves || out_of_bytes sheet_bytes labels) ∷ test 2 (broken_layout moves labels)
    ∷ test 3 (wrong_first_line moves labels) ∷ test 4 (wrong_states labels) ∷ test 5 (many_moves (moves_of moves))
    ∷ test 6 (strange_state (states_of labels) (moves_of moves)) ∷ test 9 (wrong_rate (moves_of moves)) ∷ []

-- those of a formula, if its text spells one, over a sheet that passed and has these label names and this uniformisation rate
unfoldable pub formula_tests : List Text → ℕ → Option Formula → List Test
formula_tests names q o =
    test 10 (is_missing o) ∷ test 11 (large_formula (formula_from o)) ∷ test 12 (strange_label names (formula_from o))
    ∷ test 13 (wrong_bound (formula_from o)) ∷ test 16 (wrong_times (formula_from o)) ∷ test 14 (high_load q (formula_from o)) ∷ []

-- those of a job's three texts: 1 is put to all three of them first
unfoldable pub text_tests : Job → List Test
text_tests j =
    test 1 (out_of_bytes formula_bytes j.formula) ∷ sheet_tests j.moves j.labels
    ++ formula_tests (job_sheet j).names (top_rate (job_chain j)) (read_formula j.formula)

-- the number of the first that holds
unfoldable pub first_of : List Test → Option ℕ
first_of [] = None
first_of (x ∷ xs) = cond x.holds (Some x.number) (first_of xs)

-- what the three texts alone are turned back with
unfoldable pub text_refusal : Job → Option ℕ
text_refusal j = first_of (text_tests j)

-- what a job is turned back with, where buffers of these lengths are lent
unfoldable pub refusal : Job → Buffers ℕ → Option ℕ
refusal j lent = first_of (text_tests j ++ (test 15 (short_buffer j lent) ∷ []))

-- refused with a number, or accepted: the chain, the formula, q and the depth
pub data Outcome : Type 0 where
  refused : ℕ → Outcome
  accepted : Chain → Formula → ℕ → ℕ → Outcome

unfoldable pub outcome_by : Job → Option ℕ → Outcome
outcome_by j (Some number) = refused number
outcome_by j None = accepted (job_chain j) (job_formula j) (top_rate (job_chain j)) (depth_of (job_chain j) (job_formula j))

unfoldable pub outcome : Job → Buffers ℕ → Outcome
outcome j lent = outcome_by j (refusal j lent)
