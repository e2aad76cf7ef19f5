-- The moves of a text, stored word by word. Assumes nothing.
use mathlib.Core.Path.{◌≡◌, sym, ◌∙◌}
use Prim.Native.Nat.{ℕ, suc, ◌+◌, ◌-◌, ◌≤◌, ◌<◌}
use native.Mathlib.Omega.{arith}
use native.Mathlib.Numerals.{add-one}
use mathlib.Core.Bool.{true, ◌&&◌, and-eq-true_iff}
use mathlib.Core.List.{List, map}
use lib.ListN.{length, take, drop, get_or, set}
use Rattle.csl.specs.Text.{Text}
use Rattle.csl.specs.Line.{line_feed, lines_of}
use Rattle.csl.specs.Moves.{move_line, move_of, moves_layout, moves_of}
use Rattle.texts.specs.Span.{span_of}
use Rattle.texts.specs.Cut.{rest_is, ended_cut, later_cut, later_none}
use Rattle.texts.specs.LineAt.{line_at, is_ended_at}
use Rattle.texts.specs.Lines.{lines_pass, next_line, lines_are, lines_end, pass_more, pass_first}
use Rattle.texts.specs.Places.{drop_here, drop_none}
use Rattle.numbers.specs.Filled.{Table, table_none, table_more, table_done}
use Rattle.rate_matrix.specs.ByPlace.{no_move}
use Rattle.moves.specs.Words.{move_word, WordAt}

-- j words are stored, and the text t holds the lines of the rest
pub record Storing (s : Text) (w₀ w : List ℕ) (t : Text) (j : ℕ) : Type 0 where
  pub left : drop j (moves_of s) ≡ map move_of (lines_of t)
  pub passes : lines_pass move_line t ≡ true
  pub table : Table (move_word s) w₀ w j
  pub place : j ≤ length (moves_of s)

module _ (s : Text) (w₀ : List ℕ) where
  pub start : {end : ℕ} → moves_layout s ≡ true → end ≡ span_of line_feed s → end < length s
      → Storing s w₀ w₀ (take (length s - (end + 1)) (drop (end + 1) s)) 0
  unfolding moves_layout moves_of lines_pass
  start y e h =
      let l : span_of line_feed s < length s = omega arith in
      rw (rest_is, e)
      record {
        left = rw (later_cut s l);
        passes = rw (ended_cut s l, later_cut s l) at y;
        table = table_none (move_word s) w₀;
        place = omega arith;
      }

  -- a text with no line feed has no moves
  pub start_none : length s ≤ span_of line_feed s → Table (move_word s) w₀ w₀ (length (moves_of s))
  unfolding moves_of
  start_none h = rw (later_none s h) (table_none (move_word s) w₀)

module _ {s : Text} {w₀ w : List ℕ} {t : Text} {j : ℕ} (v : Storing s w₀ w t j) where
  pub done : length t ≤ 0 → Table (move_word s) w₀ w (length (moves_of s))
  done h = table_done v.table v.place (drop_none (moves_of s) j (v.left ∙ rw (lines_end t h)))

  -- all words are stored
  pub filled : length (moves_of s) ≤ length w₀ → length w₀ ≤ j → Table (move_word s) w₀ w (length (moves_of s))
  filled l h = table_done v.table v.place (omega arith)

  pub sized : length w ≡ length w₀
  sized = v.table.same

  module _ (h : 0 < length t) where
    pub line_passes : (is_ended_at t && move_line (line_at t)) ≡ true
    line_passes = pass_first move_line t h v.passes

    both : (is_ended_at t ≡ true) × (move_line (line_at t) ≡ true)
    both = (and-eq-true_iff (is_ended_at t) (move_line (line_at t))).0 line_passes

    here : (j < length (moves_of s)) × (get_or (moves_of s) j no_move ≡ move_of (line_at t)) × (drop (suc j) (moves_of s) ≡ map move_of (lines_of (next_line t)))
    here = drop_here (moves_of s) j no_move (move_of (line_at t)) (map move_of (lines_of (next_line t))) (v.left ∙ rw (lines_are t both.0))

    module _ (l : length (moves_of s) ≤ length w₀) where
      pub turn : {n u : ℕ} → WordAt t n u → Storing s w₀ (set w j n) (take (length t - u) (drop u t)) (j + 1)
      turn {n} {u} y =
          let e : n ≡ move_word s j = y.word_is ∙ rw here.1 in
          rw (rest_is, y.used_is)
          record {
            left = rw (add-one j) here.2;
            passes = sym (pass_more move_line t both.0 both.1) ∙ v.passes;
            table = table_more n v.table (omega (arith, l, here.0, v.table.same)) e;
            place = omega (arith, here.0);
          }

pub ruleset store_laws = (start, start_none, done, filled, sized, line_passes, turn)
