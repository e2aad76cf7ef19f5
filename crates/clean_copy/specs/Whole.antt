-- The copy of what is laid in words. Assumes nothing.
use Rattle.std.specs.Prelude.{◌≡◌, List, ◌++◌, ℕ, ◌+◌}
use Rattle.std.proofs.Math.Path.{refl, ap}
use Rattle.std.proofs.Common.{add-one}
use Rattle.csl.specs.Text.{Text, bytes}
use Rattle.csl.specs.Copy.{lines_text, moves_text, pairs_from, pairs_below}
use Rattle.clean_copy.specs.Row.{row_lines, lines_append, pairs_same}
use Rattle.clean_copy.specs.Laid.{laid_rate, Gathered}

-- the copy; its lines from the states below s, and those from s
unfoldable pub laid_copy : (rows columns : List ℕ) (n : ℕ) → Text
laid_copy rows columns n = moves_text (pairs_below (laid_rate rows columns n) n n)

unfoldable pub lines_to : (rows columns : List ℕ) (n s : ℕ) → Text
lines_to rows columns n s = lines_text (pairs_below (laid_rate rows columns n) n s)

unfoldable pub lines_from : (rows columns : List ℕ) (n s : ℕ) → Text
lines_from rows columns n s = lines_text (pairs_from (laid_rate rows columns n) s n)

module _ (rows columns : List ℕ) (n : ℕ) where
  -- the lines stand behind the first line
  pub copy_is : laid_copy rows columns n ≡ bytes "from,to,rate\n" ++ lines_to rows columns n n
  unfolding laid_copy lines_to moves_text
  copy_is = refl

  -- one state more
  pub lines_next : (s : ℕ) → lines_to rows columns n (s + 1) ≡ lines_to rows columns n s ++ lines_from rows columns n s
  unfolding lines_to lines_from pairs_below
  lines_next s = rw (add-one s) (lines_append (pairs_below (laid_rate rows columns n) n s) (pairs_from (laid_rate rows columns n) s n))

  -- its lines are those of its rates once they are added up
  pub lines_gathered : (totals : List ℕ) (s : ℕ) → Gathered (laid_rate rows columns n s) n totals → row_lines totals s n ≡ lines_from rows columns n s
  unfolding row_lines lines_from
  lines_gathered totals s g = ap lines_text (pairs_same _ _ s n g.each)
