-- What the report of a node asks, once its operands are decided, and what it leaves. Assumes nothing.
use Rattle.std.specs.Prelude.{◌≡◌, true, false, List, ℕ, ◌*◌, ◌≤◌, length}
use Rattle.csl.specs.Text.{Text}
use Rattle.csl.specs.Limits.{most_names, most_moves}
use Rattle.csl.specs.Formula.{Formula}
use Rattle.csl.specs.Chain.{Chain}
use Rattle.csl.specs.Report.{depth_of}
use Rattle.csl.specs.Lent.{verdict_byte}
use Rattle.bounds.specs.Found.{report_lower, report_upper, found}
use Rattle.rate_matrix.specs.Shown.{Shows}
use Rattle.incoming_moves.specs.Shown.{IndexShows}
use Rattle.vectors.specs.Places.{owns_from, EndsStored}
use Rattle.vectors.specs.Prepared.{Prepared}
use Rattle.vectors.specs.Owns.{Owns}
use Rattle.verdict_rows.specs.Row.{EndsIn}
use Rattle.formula.specs.Operands.{operands_of}
use Rattle.formula.specs.FormulaAt.{formula_over}
use Rattle.formula.specs.Pass.{passed, Labels, Limits, Order, Load, NoSearch}
use Rattle.formula.specs.declared.nodes.Kind.{Kind}
use Rattle.formula.specs.declared.operands.Operands.{Operands}
use Rattle.decide.specs.Asked.{Marked}
use Rattle.decide.specs.Rows.{rows_of, RowsHold, RowLeft}

-- A node of this kind is to be decided from the rows of its operands; it passes the tests that are put to all nodes.
pub record NodeAsked (mv ix l marks : List ℕ) (kind : Kind) (n q : ℕ) : Type 0 where
  pub c : Chain
  pub names : List Text
  pub few : length names ≤ most_names
  pub shows : Shows c mv (length mv) n
  pub prepared : Prepared mv l n q
  pub owns : Owns c l n
  pub few_words : length ix ≤ most_moves
  pub index : passed NoSearch kind ≡ false → IndexShows c ix l (owns_from n) n
  pub marked : Marked c names l n
  pub label : passed (Labels (length names)) kind ≡ true
  pub limits : passed Limits kind ≡ true
  pub in_order : passed Order kind ≡ true
  pub load : passed (Load q) kind ≡ true
  pub held : rows_of (operands_of kind) * n ≤ length marks

-- The report of the formula f, whose node has these operands.
pub record NodeDecided (c : Chain) (f : Formula) (operands : Operands) (n : ℕ) (l₀ l marks₀ marks : List ℕ) (r : ℕ) : Type 0 where
  pub row : RowLeft operands (λ s. verdict_byte (found c f s)) n marks₀ marks
  pub ends : EndsStored (report_lower c f) (report_upper c f) n l₀ l
  pub range : EndsIn n l
  pub deep : r ≡ depth_of c f

-- whatever the formulas are whose verdicts the rows hold: `look` has them by the places of the operands
abbrev pub NodeLeaves : {mv ix l marks : List ℕ} {kind : Kind} {n q : ℕ} → NodeAsked mv ix l marks kind n q → (l' marks' : List ℕ) → ℕ → Type 0
NodeLeaves {l = l} {marks = marks} {kind = kind} {n = n} a l' marks' r =
    (look : ℕ → Formula) → RowsHold (operands_of kind) (λ x. found a.c (look x)) marks n
    → NodeDecided a.c (formula_over a.names look kind) (operands_of kind) n l l' marks marks' r
