-- A text at a place in a buffer: where it fits, and what the buffer holds after it was written there. Assumes nothing.
use Rattle.std.specs.Prelude.{◌≡◌, List, ◌++◌, ℕ, ◌+◌, ◌≤◌, length, take, drop}
use Rattle.csl.specs.Text.{Text}
use Rattle.csl.specs.Lent.{written}

-- a buffer whose bytes from `at` on are written over; those before and beyond are unchanged
unfoldable pub written_at : ℕ → Text → List ℕ → List ℕ
written_at at text old = take at old ++ written text (drop at old)

-- the text fits at the place
abbrev pub Room : ℕ → Text → List ℕ → Type 0
Room at text old = at + length text ≤ length old

-- the text was written at the place, and `next` is the place after it
pub record Wrote (at : ℕ) (text : Text) (old new : List ℕ) (next : ℕ) : Type 0 where
  pub after : next ≡ at + length text
  pub holds : new ≡ written_at at text old
