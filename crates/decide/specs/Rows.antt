-- The rows that a formula takes, those of a node's operands, and the row that is left. Assumes nothing.
use Rattle.std.specs.Prelude.{◌≡◌, List, ℕ, ◌+◌, ◌<◌, max}
use Rattle.csl.specs.Formula.{Formula, always, label, negated, both, chance, Path, until, next_move, between}
use Rattle.csl.specs.Verdicts.{Verdict}
use Rattle.numbers.specs.Filled.{at, Table, Twin}
use Rattle.verdicts.specs.Byte.{verdict_at}
use Rattle.formula.specs.declared.operands.Operands.{Operands}
use Rattle.formula.specs.declared.operands.Operands.TheVariants.{None, One, Two}

-- how many rows a formula takes: its first operand is decided in all of them, a second in all but the first
unfoldable mutual
  pub rows_for : Formula → ℕ
  rows_for always = 1
  rows_for (label w) = 1
  rows_for (negated a) = rows_for a
  rows_for (both a b) = max (rows_for a) (1 + rows_for b)
  rows_for (chance r p w) = rows_in w

  pub rows_in : Path → ℕ
  rows_in (until t a b) = max (rows_for a) (1 + rows_for b)
  rows_in (next_move a) = rows_for a
  rows_in (between t u a b) = max (rows_for a) (1 + rows_for b)

-- how many rows a node's operands leave: the node's own, which its first operand takes, and one more for the second
abbrev pub rows_of : Operands → ℕ
rows_of None = 1
rows_of (One a) = 1
rows_of (Two a b) = 2

-- they hold the operands' verdicts, which vs has by their places
abbrev pub RowsHold : Operands → (ℕ → ℕ → Verdict) → List ℕ → ℕ → Type 0
RowsHold None vs marks n = Unit {0}
RowsHold (One a) vs marks n = (s : ℕ) → s < n → verdict_at (at marks s) ≡ vs a s
RowsHold (Two a b) vs marks n =
    ((s : ℕ) → s < n → verdict_at (at marks s) ≡ vs a s) × ((s : ℕ) → s < n → verdict_at (at marks (n + s)) ≡ vs b s)

-- the node's own row is that of f, and that of a second operand holds 0 again
abbrev pub RowLeft : Operands → (ℕ → ℕ) → ℕ → (old new : List ℕ) → Type 0
RowLeft None f n old new = Table f old new n
RowLeft (One a) f n old new = Table f old new n
RowLeft (Two a b) f n old new = Twin f (λ _. 0) 0 n n old new
