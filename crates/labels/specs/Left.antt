-- Marks that are left to read. Assumes nothing.
use Rattle.std.specs.Prelude.{ℕ, zero, suc, Bool, true, List, []}
use Rattle.csl.specs.Text.{Text}
use Rattle.texts.specs.LineAt.{fields_at}
use Rattle.texts.specs.Marks.{marks_in}

-- so many marks end the line at the start of a text: behind the last of them nothing is asked
unfoldable pub marks_left : ℕ → Text → Bool
marks_left zero t = true
marks_left (suc k) t = marks_in (suc k) t

-- they, as fields
unfoldable pub fields_left : ℕ → Text → List Text
fields_left zero t = []
fields_left (suc k) t = fields_at t
