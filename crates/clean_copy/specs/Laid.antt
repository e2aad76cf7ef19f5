-- The rates of n states as they are laid in words: the moves to other states in rows by the state that they leave, and in columns where each row
-- ends, and the rates to the own state. Assumes nothing.
use Rattle.std.specs.Prelude.{◌≡◌, cond, List, ℕ, suc, ◌+◌, ◌≤◌, ◌<◌, length, eqb}
use Rattle.csl.specs.Limits.{most_rate}
use Rattle.rate_matrix.specs.Words.{at, rate_between, row_of, Lines, InRows}

pub record Laid (rows columns : List ℕ) (n : ℕ) : Type 0 where
  pub lines : Lines rows (length rows) n
  pub in_rows : InRows rows (length rows)
  pub room : n + n + n ≤ length columns
  pub ends : (s : ℕ) → s < n → at columns (n + s) ≡ row_of rows (length rows) (suc s)
  pub owns : (s : ℕ) → s < n → at columns (n + n + s) ≤ most_rate

-- the rate from s to t: what the words say, and to the own state what stands in its column
unfoldable pub laid_rate : (rows columns : List ℕ) (n s t : ℕ) → ℕ
laid_rate rows columns n s t = rate_between rows (length rows) s t + cond (eqb s t) (at columns (n + n + s)) 0

-- the first n are f's
pub record Gathered (f : ℕ → ℕ) (n : ℕ) (totals : List ℕ) : Type 0 where
  pub each : (t : ℕ) → t < n → at totals t ≡ f t
