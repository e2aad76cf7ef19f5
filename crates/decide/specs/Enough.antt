-- The lent marks have the rows that a formula takes: it takes no more of them than it has levels, nor than it has nodes. Assumes nothing.
use Rattle.std.specs.Prelude.{◌≡◌, refl, ℕ, zero, suc, ◌+◌, ◌*◌, ◌≤◌}
use Rattle.std.proofs.Common.{arith, mul-le-mul_right}
use Rattle.csl.specs.Limits.{most_levels, most_rows}
use Rattle.csl.specs.Formula.{Formula, always, label, negated, both, chance, Path, until, next_move, between, nodes, levels, levels_in}
use Rattle.formula.specs.Stored.{levels_nodes}
use Rattle.verdict_rows.specs.Row.{rows_length}
use Rattle.decide.specs.Rows.{rows_for, rows_in}

-- a formula takes a row
mutual
  unfolding rows_for rows_in

  pub rows_some : (f : Formula) → 1 ≤ rows_for f
  rows_some always = omega arith
  rows_some (label w) = omega arith
  rows_some (negated a) = rows_some a
  rows_some (both a b) = omega (arith, rows_some a)
  rows_some (chance r p w) = rows_in_some w

  rows_in_some : (w : Path) → 1 ≤ rows_in w
  rows_in_some (until t a b) = omega (arith, rows_some a)
  rows_in_some (next_move a) = rows_some a
  rows_in_some (between t u a b) = omega (arith, rows_some a)

-- but no more than it has levels
mutual
  unfolding rows_for rows_in levels levels_in

  pub rows_levels : (f : Formula) → rows_for f ≤ levels f
  rows_levels always = omega arith
  rows_levels (label w) = omega arith
  rows_levels (negated a) = omega (arith, rows_levels a)
  rows_levels (both a b) = omega (arith, rows_levels a, rows_levels b)
  rows_levels (chance r p w) = rows_in_levels w

  rows_in_levels : (w : Path) → rows_in w ≤ 1 + levels_in w
  rows_in_levels (until t a b) = omega (arith, rows_levels a, rows_levels b)
  rows_in_levels (next_move a) = omega (arith, rows_levels a)
  rows_in_levels (between t u a b) = omega (arith, rows_levels a, rows_levels b)

-- so it has a level
pub levels_some : (f : Formula) → 1 ≤ levels f
levels_some f = omega (arith, rows_some f, rows_levels f)

-- "nested at most 16 deep": 16 rows always do, so one of the 17 that are lent is to spare
pub sixteen_do : (f : Formula) → levels f ≤ most_levels → rows_for f ≤ 16
sixteen_do f h = omega (arith, rows_levels f)

-- and some formulas of that depth take all 16
abbrev pub nested : ℕ → Formula
nested zero = always
nested (suc k) = both always (nested k)

pub sixteen_are_taken : (levels (nested 15) ≡ 16) × (rows_for (nested 15) ≡ 16)
unfolding levels rows_for
sixteen_are_taken = (refl, refl)

-- "mark bytes of 17 × n, or nodes × n where that is less, shall be enough": the rows fit
pub rows_fit : (f : Formula) (n : ℕ) → levels f ≤ most_levels → rows_for f * n ≤ rows_length n (nodes f)
rows_fit f n h =
    let x : rows_for f * n ≤ most_rows * n = mul-le-mul_right n (omega (arith, rows_levels f)) in
    let y : rows_for f * n ≤ nodes f * n = mul-le-mul_right n (omega (arith, rows_levels f, levels_nodes f)) in
    omega arith
