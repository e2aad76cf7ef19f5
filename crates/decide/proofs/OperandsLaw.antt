-- The operands of a node: the first goes into the node's row, a second into the next. Assumes nothing.
use mathlib.Core.Path.{◌≡◌, refl, ap, ◌∙◌}
use mathlib.Core.List.{List}
use Prim.Native.Nat.{ℕ, suc, ◌+◌, ◌*◌, ◌≤◌, ◌<◌, max}
use native.Mathlib.Omega.{arith}
use lib.ListN.{length}
use Rattle.csl.specs.Text.{Text}
use Rattle.csl.specs.Formula.{Formula, levels, levels_in}
use Rattle.csl.specs.Lent.{verdict_byte}
use Rattle.numbers.specs.Filled.{at, Filled, table_at, table_rest}
use Rattle.numbers.specs.Part.{rest, back, rest_at, rest_length, part_filled}
use Rattle.bounds.specs.Found.{found}
use Rattle.vectors.specs.Places.{values_from}
use Rattle.vectors.specs.Prepared.{ends_prepared}
use Rattle.verdicts.specs.Byte.{verdict_at, byte_read}
use Rattle.formula.specs.Nodes.{kind_at}
use Rattle.formula.specs.Operands.{operands_of}
use Rattle.formula.specs.FormulaAt.{formula_at, formula_over}
use Rattle.formula.specs.declared.nodes.Path.TheVariants as path
use Rattle.formula.specs.declared.nodes.Kind.{Kind}
use Rattle.formula.specs.declared.nodes.Kind.TheVariants as kind
use Rattle.formula.specs.declared.operands.Operands.{Operands}
use Rattle.formula.specs.declared.operands.Operands.TheVariants.{None, One, Two}
use Rattle.decide.specs.Asked.{DecideAsked, formula_of}
use Rattle.decide.specs.Rows.{rows_for, rows_in, rows_of, RowsHold}
use Rattle.decide.specs.Enough.{rows_some}
use Rattle.decide.proofs.RowsLaw.{ends_over, first_row, second_row}
use Rattle.decide.proofs.AskedLaw.{Leaves, marked_kept, still_owns, still_index, room_for, under, operand, of_kind}

-- a formula has a level more than its operands; it takes the rows of the first, and one more than the second does
abbrev levels_over : Operands → (ℕ → ℕ) → ℕ
levels_over None f = 1
levels_over (One x) f = 1 + f x
levels_over (Two x y) f = 1 + max (f x) (f y)

abbrev rows_over : Operands → (ℕ → ℕ) → ℕ
rows_over None f = 1
rows_over (One x) f = f x
rows_over (Two x y) f = max (f x) (1 + f y)

abbrev Over : List Text → (ℕ → Formula) → Kind → Type 0
Over names look k =
    (levels (formula_over names look k) ≡ levels_over (operands_of k) (λ x. levels (look x)))
    × (rows_for (formula_over names look k) ≡ rows_over (operands_of k) (λ x. rows_for (look x)))

over : (names : List Text) (look : ℕ → Formula) (k : Kind) → Over names look k
unfolding levels levels_in rows_for rows_in
over names look kind.Always = (refl, refl)
over names look (kind.Label i) = (refl, refl)
over names look (kind.Negated x) = (refl, refl)
over names look (kind.Both x y) = (refl, refl)
over names look (kind.Chance c p (path.Until t x y)) = (refl, refl)
over names look (kind.Chance c p (path.Next x)) = (refl, refl)
over names look (kind.Chance c p (path.Between t u x y)) = (refl, refl)

-- so it takes those that its operands leave
rows_left : (o : Operands) (look : ℕ → Formula) → rows_of o ≤ rows_over o (λ x. rows_for (look x))
rows_left None look = omega arith
rows_left (One x) look = rows_some (look x)
rows_left (Two x y) look = omega (arith, rows_some (look y))

-- The operands of a node are decided: their rows hold their verdicts, the rows behind hold 0, and all words but the ends are as they were.
pub record OperandsLeft {mv ix l marks : List ℕ} {nodes : List Kind} {node limit n q : ℕ} (a : DecideAsked mv ix l marks nodes node (suc limit) n q)
    (l' marks' : List ℕ) : Type 0 where
  pub rows : RowsHold (operands_of (kind_at nodes node)) (λ x. found a.c (formula_at a.names limit nodes x)) marks' n
  pub clear : (k : ℕ) → rows_of (operands_of (kind_at nodes node)) * n ≤ k → at marks' k ≡ 0
  pub held : length marks' ≡ length marks
  pub same : length l' ≡ length l
  pub after : (k : ℕ) → values_from n ≤ k → at l' k ≡ at l k

module _ {mv ix l marks : List ℕ} {nodes : List Kind} {node limit n q : ℕ} (a : DecideAsked mv ix l marks nodes node (suc limit) n q)
    (o : Operands) (is : o ≡ operands_of (kind_at nodes node)) where
  levels_are : (x : Operands) → o ≡ x → levels (formula_of a) ≡ levels_over x (λ y. levels (under a y))
  levels_are x e = ap levels (of_kind a (kind_at nodes node) refl) ∙ (over a.names (under a) (kind_at nodes node)).0 ∙ rw (← is, e) refl

  rows_are : (x : Operands) → o ≡ x → rows_for (formula_of a) ≡ rows_over x (λ y. rows_for (under a y))
  rows_are x e = ap rows_for (of_kind a (kind_at nodes node) refl) ∙ (over a.names (under a) (kind_at nodes node)).1 ∙ rw (← is, e) refl

  pub operand_rows : rows_of o * n ≤ length marks
  operand_rows = room_for a (rows_of o) (omega (arith, rows_are o refl, rows_left o (under a)))

  -- rows that hold the verdicts of the operands x, and are left so
  left_by_lem : {l' m : List ℕ} (x : Operands) → o ≡ x → RowsHold x (λ y. found a.c (under a y)) m n → ((k : ℕ) → rows_of x * n ≤ k → at m k ≡ 0)
      → length m ≡ length marks → length l' ≡ length l → ((k : ℕ) → 2 * n ≤ k → at l' k ≡ at l k) → OperandsLeft a l' m
  left_by_lem x e rows clear held same after =
      record { rows = rw (← is, e) rows; clear = λ k h. clear k (rw (← is, e) at h); held = held; same = same; after = after }

  -- none
  pub none_left : o ≡ None → OperandsLeft a l marks
  none_left e = left_by_lem None e tt (λ k h. a.clear k (omega arith)) refl refl (λ k h. refl)

  -- one
  module _ {x : ℕ} (e : o ≡ One x) where
    pub deeper : levels (formula_of a) ≡ 1 + levels (under a x)
    deeper = levels_are (One x) e

    pub rows_same : rows_for (formula_of a) ≡ rows_for (under a x)
    rows_same = rows_are (One x) e

    abbrev pub may_one : DecideAsked mv ix l marks nodes x limit n q
    may_one =
        operand a x l marks (rw (← is, e) at (a.fits node (omega arith)).before) a.prepared a.owns (λ i. i) a.marked (omega (arith, deeper, a.deep))
        (room_for a (rows_for (under a x)) (omega (arith, rows_same))) a.clear

    pub one_left : {l₁ m₁ : List ℕ} {r : ℕ} → Leaves mv ix l l₁ marks m₁ nodes x limit n q r → OperandsLeft a l₁ m₁
    one_left u =
        let v = u may_one in
        left_by_lem (One x) e (λ s h. ap verdict_at (table_at v.row s h) ∙ byte_read (found a.c (under a x) s))
        (λ k h. table_rest v.row k (omega arith) ∙ a.clear k (omega arith)) v.row.same v.ends.same v.ends.after

  -- two
  module _ {x y : ℕ} (e : o ≡ Two x y) where
    pub deepest : levels (formula_of a) ≡ 1 + max (levels (under a x)) (levels (under a y))
    deepest = levels_are (Two x y) e

    pub rows_most : rows_for (formula_of a) ≡ max (rows_for (under a x)) (1 + rows_for (under a y))
    rows_most = rows_are (Two x y) e

    pub before : (x < node) × (y < node)
    before = rw (← is, e) at (a.fits node (omega arith)).before

    abbrev pub may_first : DecideAsked mv ix l marks nodes x limit n q
    may_first =
        operand a x l marks before.0 a.prepared a.owns (λ i. i) a.marked (omega (arith, deepest, a.deep))
        (room_for a (rows_for (under a x)) (omega (arith, rows_most))) a.clear

    module _ {l₁ m₁ : List ℕ} {r₁ : ℕ} (u : Leaves mv ix l l₁ marks m₁ nodes x limit n q r₁) where
      pub two_rows : n + n ≤ length m₁
      two_rows = omega (arith, room_for a 2 (omega (arith, rows_most, rows_some (under a y))), (u may_first).row.same)

      abbrev pub may_second : DecideAsked mv ix l₁ (rest m₁ n) nodes y limit n q
      may_second =
          let v = u may_first in
          operand a y l₁ (rest m₁ n) before.1 (ends_prepared a.prepared v.ends) (still_owns a.owns v.ends) (λ i. still_index i v.ends)
          (marked_kept a.c a.names a.marked v.ends) (omega (arith, deepest, a.deep))
          (omega (arith, room_for a (1 + rows_for (under a y)) (omega (arith, rows_most)), v.row.same, rest_length m₁ n))
          (λ k h. rest_at m₁ n k ∙ table_rest v.row (n + k) (omega arith) ∙ a.clear (n + k) (omega arith))

      -- when both are decided
      module _ {l₂ ys : List ℕ} {r₂ : ℕ} (w : Leaves mv ix l₁ l₂ (rest m₁ n) ys nodes y limit n q r₂) where
        second_filled : Filled (λ s. verdict_byte (found a.c (under a y) s)) n n m₁ (back m₁ n ys)
        second_filled = part_filled m₁ n (omega (arith, two_rows)) (w may_second).row

        pub two_left : OperandsLeft a l₂ (back m₁ n ys)
        two_left =
            let v = u may_first in
            let kept = ends_over v.ends (w may_second).ends in
            left_by_lem (Two x y) e (
              (λ s h. ap verdict_at (first_row v.row second_filled s h) ∙ byte_read (found a.c (under a x) s)),
              (λ s h. ap verdict_at (second_row v.row second_filled s h) ∙ byte_read (found a.c (under a y) s)),
            )
            (λ k h. second_filled.after k (omega arith) ∙ table_rest v.row k (omega arith) ∙ a.clear k (omega arith))
            (second_filled.same ∙ v.row.same) kept.same kept.after
