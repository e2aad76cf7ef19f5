-- What the report of a node other than `P` asks, once its operands are decided, and what it leaves. Assumes nothing.
use Rattle.std.specs.Prelude.{◌≡◌, List, ℕ, ◌+◌, ◌≤◌, ◌<◌, length}
use Rattle.csl.specs.Limits.{most_states}
use Rattle.numbers.specs.Filled.{at, Table, Twin}
use Rattle.vectors.specs.Places.{vector_length}
use Rattle.until.specs.Asked.{Still}
use Rattle.verdict_rows.specs.Byte.{joined_byte}

-- Words for the ends, and a row.
pub record PlainAsked (l marks : List ℕ) (n : ℕ) : Type 0 where
  pub states : n ≤ most_states
  pub long : vector_length n ≤ length l
  pub held : n ≤ length marks

-- Also the marks of a label, whose place among the names this is.
pub record LabelAsked (l marks : List ℕ) (place n : ℕ) : Type 0 where
  pub plain : PlainAsked l marks n
  pub below : place < 64

-- Words for the ends, and two rows.
pub record BothAsked (l marks : List ℕ) (n : ℕ) : Type 0 where
  pub plain : PlainAsked l marks n
  pub held : n + n ≤ length marks

-- The report of a node other than `P`: the row holds what f says, and the ends are those that it stands for.
pub record Plain (f : ℕ → ℕ) (n : ℕ) (l₀ l marks₀ marks : List ℕ) (r : ℕ) : Type 0 where
  pub row : Table f marks₀ marks n
  pub ends : Still marks n l₀ l
  pub deep : r ≡ 0

-- The same of `&`, with 0 in the second row.
pub record BothLeaves (n : ℕ) (l₀ l marks₀ marks : List ℕ) (r : ℕ) : Type 0 where
  pub rows : Twin (λ s. joined_byte (at marks₀ s) (at marks₀ (n + s))) (λ _. 0) 0 n n marks₀ marks
  pub ends : Still marks n l₀ l
  pub deep : r ≡ 0
