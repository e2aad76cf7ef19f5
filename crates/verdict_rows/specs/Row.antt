-- A row: the first n bytes of a slice; and the words that a row is judged by. Assumes nothing.
use Rattle.std.specs.Prelude.{◌≡◌, List, ℕ, ◌+◌, ◌≤◌, ◌<◌, length, get_or}
use Rattle.csl.specs.Limits.{billion}
use Rattle.csl.specs.Lent.{needed}
use Rattle.numbers.specs.Filled.{Table}

-- the row is that of f, and all behind it is as it was
abbrev pub RowIs : (ℕ → ℕ) → ℕ → (old new : List ℕ) → Type 0
RowIs f n old new = Table f old new n

-- each byte of the row is one that R allows at its state in the place of the byte that it was, and all behind the row is as it was
pub record RowBy (R : (state was is : ℕ) → Type 0) (n : ℕ) (old new : List ℕ) : Type 0 where
  pub same : length new ≡ length old
  pub each : (s : ℕ) → s < n → R s (get_or old s 0) (get_or new s 0)
  pub rest : (s : ℕ) → n ≤ s → get_or new s 0 ≡ get_or old s 0

-- the first 2 * n words are ends: "Ends lie from 0 to 1,000,000,000."
pub record EndsIn (n : ℕ) (words : List ℕ) : Type 0 where
  pub long : n + n ≤ length words
  pub range : (k : ℕ) → k < n + n → get_or words k 0 ≤ billion

-- "mark bytes of 17 × n, or nodes × n where that is less"
abbrev pub rows_length : (n nodes : ℕ) → ℕ
rows_length n nodes = (needed n 0 nodes).marks
