-- The words of a labels text, stored line by line. Assumes nothing.
use mathlib.Core.Path.{◌≡◌, refl, sym, ap, ◌∙◌}
use Prim.Native.Nat.{ℕ, zero, suc, ◌+◌, ◌*◌, ◌-◌, ◌≤◌, ◌<◌}
use native.Mathlib.Omega.{arith}
use native.Mathlib.Numerals.{add-one}
use mathlib.Core.Bool.{Bool, true, false, true≢false}
use lib.Dec.{ltb}
use borrow.Author.Tests.{ltb-true, ltb-false}
use mathlib.Core.List.{List, [], tail}
use lib.ListN.{length, take, drop, get_or, set}
use Rattle.csl.specs.Text.{Text}
use Rattle.csl.specs.Line.{line_feed, lines_of, later_lines, first_line, fields_of}
use Rattle.csl.specs.Labels.{state_line, labels_layout, names_of, states_of}
use Rattle.texts.specs.Span.{span_of}
use Rattle.texts.specs.Cut.{rest_is, ended_cut, later_cut, later_none}
use Rattle.std.specs.Prelude.{Option, Some, None}
use Rattle.texts.specs.declared.digits.Numeral.{Numeral}
use Rattle.texts.specs.Digits.{read}
use Rattle.texts.specs.LineAt.{line_at, fields_at, fields_some}
use Rattle.texts.specs.Lines.{lines_pass, next_line, lines_are, lines_end, pass_more, pass_not}
use Rattle.texts.specs.Places.{drop_here, drop_none}
use Rattle.numbers.specs.Filled.{Table, table_none, table_more, table_done}
use Rattle.labels.specs.StateLine.{state_line_at, StateLineFits}
use Rattle.labels.proofs.LinesLaw.{told, untold, line_ends}
use Rattle.labels.specs.Left.{marks_left, fields_left}
use Rattle.labels.specs.Words.{marks_word, state_word}
use Rattle.labels.proofs.LineLaw.{row_bare, row_tail}

-- the marks of a line that was read, behind its number
line_marks : (names : ℕ) (t : Text) (v u : ℕ) → state_line_at names t ≡ read v u → marks_left names (drop (u - 2 * names) t) ≡ true
unfolding marks_left
line_marks zero t v u h = refl
line_marks (suc k) t v u h = (row_tail k t v u h).0

line_fields : (names : ℕ) (t : Text) (v u : ℕ) → state_line_at names t ≡ read v u → fields_left names (drop (u - 2 * names) t) ≡ tail (fields_at t)
unfolding fields_left
line_fields zero t v u h = sym (row_bare t v u h)
line_fields (suc k) t v u h = (row_tail k t v u h).1

-- j words are stored, and the text t holds the lines of the rest
pub record Storing (s : Text) (names : ℕ) (w₀ w : List ℕ) (t : Text) (j : ℕ) : Type 0 where
  pub left : drop j (later_lines s) ≡ lines_of t
  pub passes : lines_pass (state_line (suc names)) t ≡ true
  pub table : Table (state_word s) w₀ w j
  pub place : j ≤ states_of s

fields_names : (labels : Text) → length (fields_of (first_line labels)) ≡ suc (length (names_of labels))
unfolding names_of
fields_names labels = ap length (fields_some (first_line labels))

module _ (s : Text) (names : ℕ) (w₀ : List ℕ) where
  pub start : {end : ℕ} → labels_layout s ≡ true → names ≡ length (names_of s) → end ≡ span_of line_feed s → end < length s
      → Storing s names w₀ w₀ (take (length s - (end + 1)) (drop (end + 1) s)) 0
  unfolding labels_layout lines_pass states_of
  start y n e h =
      let l : span_of line_feed s < length s = omega arith in
      rw (rest_is, e, n)
      record {
        left = later_cut s l;
        passes = rw (ended_cut s l, later_cut s l, fields_names s) at y;
        table = table_none (state_word s) w₀;
        place = omega arith;
      }

  -- a text with no line feed has no states
  pub start_none : length s ≤ span_of line_feed s → Table (state_word s) w₀ w₀ (states_of s)
  unfolding states_of
  start_none h = rw (later_none s h) (table_none (state_word s) w₀)

-- a row that was read
module _ {r : Option Numeral} {n : Numeral} (h : r ≡ Some n) (names : ℕ) (t : Text) where
  pub marks_ahead : r ≡ state_line_at names t → marks_left names (take (length t - (n.used - 2 * names)) (drop (n.used - 2 * names) t)) ≡ true
  marks_ahead g = rw rest_is (line_marks names t n.value n.used (sym g ∙ h))

  module _ (f : StateLineFits names (length t) r) where
    pub number_ends : 2 * names ≤ n.used
    number_ends = let k = rw h at f in omega arith

    pub marks_begin : n.used - 2 * names ≤ length t
    marks_begin = omega (arith, line_ends h names t f)

module _ {s : Text} {names : ℕ} {w₀ w : List ℕ} {t : Text} {j : ℕ} (v : Storing s names w₀ w t j) where
  -- all words are stored
  pub filled : states_of s ≤ length w₀ → length w₀ ≤ j → Table (state_word s) w₀ w (states_of s)
  filled l h = table_done v.table v.place (omega arith)

  pub sized : length w ≡ length w₀
  sized = v.table.same

  module _ {r : Option Numeral} (g : r ≡ state_line_at names t) where
    -- no line is left
    pub done : r ≡ None → Table (state_word s) w₀ w (states_of s)
    unfolding states_of
    done h = table_done v.table v.place (drop_none (later_lines s) j (v.left ∙ lines_end t (none_left (ltb 0 (length t)) refl)))
      where
        none_left : (x : Bool) → ltb 0 (length t) ≡ x → length t ≤ 0
        none_left true e = absurd (true≢false (sym v.passes ∙ pass_not (state_line (suc names)) t (ltb-true _ _ e) (untold names t (sym g ∙ h))))
        none_left false e = ltb-false _ _ e

    module _ {n : Numeral} (h : r ≡ Some n) where
      is : state_line_at names t ≡ Some n
      is = sym g ∙ h

      here : (j < length (later_lines s)) × (get_or (later_lines s) j [] ≡ line_at t) × (drop (suc j) (later_lines s) ≡ lines_of (next_line t))
      here = drop_here (later_lines s) j [] (line_at t) (lines_of (next_line t)) (v.left ∙ lines_are t (told names t n.value n.used is).ended)

      pub turn : states_of s ≤ length w₀ → {word : ℕ} → word ≡ marks_word (fields_left names (take (length t - (n.used - 2 * names)) (drop (n.used - 2 * names) t)))
          → Storing s names w₀ (set w j word) (take (length t - n.used) (drop n.used t)) (j + 1)
      unfolding states_of state_word
      turn l {word} q =
          let y = told names t n.value n.used is in
          let e : word ≡ state_word s j = (rw rest_is at q) ∙ rw (line_fields names t n.value n.used is, here.1) in
          rw rest_is
          record {
            left = rw (add-one j, here.2, y.its_bytes);
            passes = sym (rw y.its_bytes at (pass_more (state_line (suc names)) t y.ended y.passes)) ∙ v.passes;
            table = table_more word v.table (omega (arith, l, here.0, v.table.same)) e;
            place = omega (arith, here.0);
          }

pub ruleset store_laws = (start, start_none, marks_ahead, number_ends, marks_begin, filled, sized, done, turn)
