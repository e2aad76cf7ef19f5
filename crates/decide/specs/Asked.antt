-- What deciding a node asks, and what it leaves. Assumes nothing.
use Rattle.std.specs.Prelude.{◌≡◌, true, false, List, [], ℕ, ◌+◌, ◌*◌, ◌/◌, ◌%◌, ◌^◌, ◌≤◌, ◌<◌, length, get_or, eqb}
use Rattle.csl.specs.Text.{Text}
use Rattle.csl.specs.Limits.{most_names, most_moves, most_nodes}
use Rattle.csl.specs.Formula.{Formula, levels}
use Rattle.csl.specs.Chain.{Chain}
use Rattle.csl.specs.Report.{depth_of}
use Rattle.csl.specs.Lent.{verdict_byte}
use Rattle.numbers.specs.Filled.{at, Table}
use Rattle.bounds.specs.Found.{report_lower, report_upper, found}
use Rattle.rate_matrix.specs.Shown.{Shows}
use Rattle.incoming_moves.specs.Shown.{IndexShows}
use Rattle.vectors.specs.Places.{owns_from, marks_from, EndsStored}
use Rattle.vectors.specs.Prepared.{Prepared}
use Rattle.vectors.specs.Owns.{Owns}
use Rattle.verdict_rows.specs.Row.{EndsIn}
use Rattle.formula.specs.Nodes.{kind_at}
use Rattle.formula.specs.Operands.{OperandsBefore}
use Rattle.formula.specs.FormulaAt.{formula_at}
use Rattle.formula.specs.Pass.{passed, Labels, Limits, Order, Load, NoSearch}
use Rattle.formula.specs.declared.nodes.Kind.{Kind}
use Rattle.decide.specs.Rows.{rows_for}

-- the label marks among the vector words: in the word of each state, the bit of each name's place
abbrev pub Marked : Chain → List Text → List ℕ → ℕ → Type 0
Marked c names l n = (i : ℕ) → i < length names → (s : ℕ) → s < n → eqb (at l (marks_from n + s) / 2 ^ i % 2) 1 ≡ c.mark (get_or names i []) s

-- a node at place k: its operands stand before it, and it passes the tests
pub record NodeFits (names : List Text) (q k : ℕ) (x : Kind) : Type 0 where
  pub before : OperandsBefore k x
  pub label : passed (Labels (length names)) x ≡ true
  pub limits : passed Limits x ≡ true
  pub in_order : passed Order x ≡ true
  pub load : passed (Load q) x ≡ true

-- A node is to be decided whose formula has no more levels than the limit: the words are prepared for a chain c whose labels have these names,
-- its rates to the own state are in their column, the index of its moves is there if a node may need a search, and the marks have the rows that
-- the formula takes, all of which but the first hold 0.
pub record DecideAsked (mv ix l marks : List ℕ) (nodes : List Kind) (node limit n q : ℕ) : Type 0 where
  pub c : Chain
  pub names : List Text
  pub few : length names ≤ most_names
  pub shows : Shows c mv (length mv) n
  pub prepared : Prepared mv l n q
  pub owns : Owns c l n
  pub few_words : length ix ≤ most_moves
  pub index : (k : ℕ) → k ≤ node → passed NoSearch (kind_at nodes k) ≡ false → IndexShows c ix l (owns_from n) n
  pub marked : Marked c names l n
  pub inside : node < most_nodes
  pub fits : (k : ℕ) → k ≤ node → NodeFits names q k (kind_at nodes k)
  pub deep : levels (formula_at names limit nodes node) ≤ limit
  pub room : rows_for (formula_at names limit nodes node) * n ≤ length marks
  pub clear : (k : ℕ) → n ≤ k → at marks k ≡ 0

-- the formula of the node
abbrev pub formula_of : {mv ix l marks : List ℕ} {nodes : List Kind} {node limit n q : ℕ} → DecideAsked mv ix l marks nodes node limit n q → Formula
formula_of {nodes = nodes} {node = node} {limit = limit} a = formula_at a.names limit nodes node

-- The report of a formula f over a chain c: the first row holds its verdicts, the first 2 * n vector words its ends, and all else is as it
-- was; r is its depth.
pub record Decides (c : Chain) (f : Formula) (n : ℕ) (l₀ l marks₀ marks : List ℕ) (r : ℕ) : Type 0 where
  pub row : Table (λ s. verdict_byte (found c f s)) marks₀ marks n
  pub ends : EndsStored (report_lower c f) (report_upper c f) n l₀ l
  pub range : EndsIn n l
  pub deep : r ≡ depth_of c f
