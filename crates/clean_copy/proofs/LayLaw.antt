-- The moves of a sheet, stored and then laid in rows. Assumes nothing.
use mathlib.Core.Path.{◌≡◌, refl, sym, ap, subst, ◌∙◌}
use mathlib.Core.Bool.{Bool, true, false, cond}
use mathlib.Core.List.{List}
use Prim.Native.Nat.{ℕ, ◌+◌, ◌<◌}
use native.Mathlib.Omega.{arith}
use native.Mathlib.Nat.{zero-add}
use lib.ListN.{length, take, drop}
use lib.Dec.{eqb}
use borrow.Author.Tests.{eqb-true}
use Rattle.csl.specs.Text.{Text}
use Rattle.csl.specs.Moves.{moves_of, rate_in}
use Rattle.csl.specs.Sheet.{Sheet, sheet_of}
use Rattle.csl.specs.Chain.{chain_of, away}
use Rattle.numbers.specs.Filled.{at, Filled, Table}
use Rattle.numbers.specs.Part.{rest, back, part_filled}
use Rattle.moves.specs.Words.{move_word}
use Rattle.rate_matrix.specs.Words.{rate_between, Lines}
use Rattle.rate_matrix.specs.Asked.{Prepare}
use Rattle.rate_matrix.specs.Laid.{own_of, RowsOf, Columns, own_slower, rows_lines, rows_rise}
use Rattle.rate_matrix.specs.Shown.{Shows}
use Rattle.rate_matrix.specs.Stored.{Holds, holds_behind, sheet_lines, owns_stored, shows_stored}
use Rattle.clean_copy.specs.Laid.{Laid, laid_rate}
use Rattle.clean_copy.specs.Lay.{LayAsked, LaidFor}

module _ {moves : Text} {m n : ℕ} {words columns ys : List ℕ} (p : LayAsked moves m n words columns)
    (t : Table (move_word moves) (rest words m) ys (length (moves_of moves))) where
  sheet : Sheet
  sheet = sheet_of moves p.labels

  -- the moves stand behind the first m words
  abbrev lines : List ℕ
  lines = drop m (back words m ys)

  stored : Filled (move_word moves) m (length (moves_of moves)) words (back words m ys)
  stored = part_filled words m (omega (arith, p.room)) t

  holds : Holds lines (moves_of moves)
  holds = holds_behind (back words m ys) m (moves_of moves) stored.filled

  are_lines : Lines lines m n
  unfolding sheet
  are_lines =
      subst (λ (k : ℕ). Lines lines k n) (sym p.count)
      (subst (λ (k : ℕ). Lines lines (length (moves_of moves)) k) (sym p.states) (sheet_lines lines sheet p.passed.sound holds))

  pub may_prepare : Prepare (back words m ys) m columns 0 n
  may_prepare = record { lines = are_lines; behind = omega (arith, p.room, stored.same); room = omega (arith, p.long) }

  module _ {words' columns' : List ℕ} (k : Columns (back words m ys) words' m 0 n columns columns') where
    abbrev rows : List ℕ
    rows = take m words'

    many : length rows ≡ m
    many = k.laid.rows.many

    is_laid : Laid rows columns' n
    is_laid =
        record {
          lines = rw many (rows_lines k.laid.rows are_lines);
          in_rows = rw many (rows_rise k.laid.rows are_lines);
          room = omega (arith, p.long, k.same);
          ends = λ s h. rw many (simp zero-add at (k.ends s h));
          owns = λ s h. omega (arith, simp zero-add at (k.owns s h), own_slower lines m s, are_lines.limit s h);
        }

    -- from a state to another the words have the rate, to the own state the column
    rate_is : (s t : ℕ) (b : Bool) → eqb s t ≡ b → cond b 0 (rate_in (moves_of moves) s t) + cond b (rate_in (moves_of moves) s s) 0 ≡ rate_in (moves_of moves) s t
    rate_is s t true e = rw (eqb-true s t e) (omega arith)
    rate_is s t false e = omega arith

    shows : Shows (chain_of sheet) rows (length (moves_of moves)) sheet.states
    unfolding sheet
    shows = shows_stored lines sheet p.passed.sound holds (subst (λ (i : ℕ). RowsOf lines rows i) p.count k.laid.rows)

    between : (s t : ℕ) → s < n → t < n → rate_between rows (length rows) s t ≡ cond (eqb s t) 0 (rate_in (moves_of moves) s t)
    unfolding chain_of away sheet
    between s t h l =
        ap (λ (i : ℕ). rate_between rows i s t) (many ∙ p.count) ∙ sym (shows.rates s t (omega (arith, p.states)) (omega (arith, p.states)))

    own : (s : ℕ) → s < n → at columns' (n + n + s) ≡ rate_in (moves_of moves) s s
    unfolding sheet
    own s h =
        simp zero-add at (k.owns s h) ∙ ap (λ (i : ℕ). own_of lines i s) p.count ∙ owns_stored lines sheet p.passed.sound holds s

    pub laid_for : LaidFor (moves_of moves) n rows columns'
    unfolding laid_rate
    laid_for =
        record {
          laid = is_laid;
          rates = λ s t h l. rw (between s t h l, own s h) (rate_is s t (eqb s t) refl);
        }

pub ruleset lay_laws = (may_prepare, laid_for)
