-- What the program's rates stand for: the rates of a state, the lines from the states below it, and the copy. Assumes nothing.
use Rattle.std.specs.Prelude.{ℕ}
use Rattle.csl.specs.Text.{Text}
use Rattle.clean_copy.specs.declared.rates.Rates.{Rates}
use Rattle.clean_copy.specs.Laid.{laid_rate}
use Rattle.clean_copy.specs.Whole.{laid_copy, lines_to, lines_from}

abbrev pub rate_from : Rates → (s t : ℕ) → ℕ
rate_from r = laid_rate r.rows.now r.columns.now r.states

abbrev pub lines_below : Rates → ℕ → Text
lines_below r = lines_to r.rows.now r.columns.now r.states

abbrev pub lines_of : Rates → ℕ → Text
lines_of r = lines_from r.rows.now r.columns.now r.states

abbrev pub copy_of : Rates → Text
copy_of r = laid_copy r.rows.now r.columns.now r.states
