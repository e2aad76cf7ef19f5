-- What the report of a job asks, and what it leaves. Assumes nothing.
use Rattle.std.specs.Prelude.{◌≡◌, List, ℕ, ◌+◌, ◌-◌, ◌*◌, ◌≤◌, ◌<◌, length, replicate}
use Rattle.csl.specs.Text.{Text}
use Rattle.csl.specs.Limits.{most_states, most_moves, most_nodes, most_levels, move_places}
use Rattle.csl.specs.Labels.{names_of, states_of}
use Rattle.csl.specs.Moves.{moves_of}
use Rattle.csl.specs.Sheet.{sheet_of}
use Rattle.csl.specs.Formula.{Formula, nodes, levels}
use Rattle.csl.specs.Chain.{Chain, chain_of, top_rate}
use Rattle.csl.specs.Report.{depth_of}
use Rattle.csl.specs.Lent.{Buffers, lengths, verdict_byte, written}
use Rattle.accepted.specs.Sheet.{SheetPassed}
use Rattle.numbers.specs.Filled.{at}
use Rattle.bounds.specs.Found.{report_lower, report_upper, found}
use Rattle.formula.specs.Nodes.{kind_at}
use Rattle.formula.specs.FormulaAt.{formula_at}
use Rattle.formula.specs.declared.nodes.Nodes.{Nodes}
use Rattle.vectors.specs.Places.{vector_length}
use Rattle.verdict_rows.specs.Row.{EndsIn, rows_length}
use Rattle.decide.specs.Asked.{NodeFits}
use Rattle.results.specs.Report.{EachFilled}
use Rattle.refusals.specs.declared.sheet_tests.Dimensions.{Dimensions}
use Rattle.checker.specs.Room.{HasRoom}

-- the chain of a sheet's texts
abbrev pub chain_in : (moves labels : Text) → Chain
chain_in moves labels = chain_of (sheet_of moves labels)

-- the formula that nodes lay out over the labels' names: its outermost node is the last
abbrev pub formula_in : Text → Nodes → Formula
formula_in labels x = formula_at (names_of labels) most_levels x.nodes (x.count - 1)

-- a formula that fits a sheet that passed its tests, laid out in nodes
pub record Ready (moves labels : Text) (x : Nodes) : Type 0 where
  pub passed : SheetPassed moves labels
  pub fits : (k : ℕ) → k < x.count → NodeFits (names_of labels) (top_rate (chain_in moves labels)) k (kind_at x.nodes k)
  pub few_levels : levels (formula_in labels x) ≤ most_levels
  pub few_nodes : x.count ≤ most_nodes
  pub counted : x.count ≡ nodes (formula_in labels x)

-- and words and mark bytes enough
pub record DecideAll (moves labels : Text) (d : Dimensions) (x : Nodes) (words vectors marks : List ℕ) : Type 0 where
  pub ready : Ready moves labels x
  pub in_words : move_places * d.moves ≤ length words
  pub in_vectors : vector_length d.states ≤ length vectors
  pub in_marks : rows_length d.states x.count ≤ length marks

-- the report of what is found of the formula over the chain stands in the first mark bytes and vector words; beyond the lengths that the job
-- needs all is as it was
pub record Decided (moves labels : Text) (x : Nodes) (words₀ words vectors₀ vectors marks₀ marks : List ℕ) (d : ℕ) : Type 0 where
  pub deep : d ≡ depth_of (chain_in moves labels) (formula_in labels x)
  pub lowers : (s : ℕ) → s < states_of labels → at vectors s ≡ report_lower (chain_in moves labels) (formula_in labels x) s
  pub uppers : (s : ℕ) → s < states_of labels → at vectors (states_of labels + s) ≡ report_upper (chain_in moves labels) (formula_in labels x) s
  pub range : EndsIn (states_of labels) vectors
  pub bytes : (s : ℕ) → s < states_of labels → at marks s ≡ verdict_byte (found (chain_in moves labels) (formula_in labels x) s)
  pub words_same : length words ≡ length words₀
  pub words_beyond : (k : ℕ) → move_places * length (moves_of moves) ≤ k → at words k ≡ at words₀ k
  pub vectors_same : length vectors ≡ length vectors₀
  pub vectors_beyond : (k : ℕ) → vector_length (states_of labels) ≤ k → at vectors k ≡ at vectors₀ k
  pub marks_same : length marks ≡ length marks₀
  pub marks_beyond : (k : ℕ) → rows_length (states_of labels) x.count ≤ k → at marks k ≡ at marks₀ k

-- words and mark bytes of a job with n states, m move lines and k nodes are to be cleared
pub record ClearAsked (n m k : ℕ) (words vectors marks : List ℕ) : Type 0 where
  pub states : n ≤ most_states
  pub moves : m ≤ most_moves
  pub nodes : k ≤ most_nodes
  pub in_words : move_places * m ≤ length words
  pub in_vectors : vector_length n ≤ length vectors
  pub in_marks : rows_length n k ≤ length marks

-- "the named lengths of move, vector and mark buffers hold 0"
pub record Cleared (n m k : ℕ) (words₀ words vectors₀ vectors marks₀ marks : List ℕ) : Type 0 where
  pub in_words : words ≡ written (replicate (move_places * m) 0) words₀
  pub in_vectors : vectors ≡ written (replicate (vector_length n) 0) vectors₀
  pub in_marks : marks ≡ written (replicate (rows_length n k) 0) marks₀

-- a formula as above, and lent buffers that are long enough
pub record ReportAsked (moves labels : Text) (d : Dimensions) (x : Nodes) (before : Buffers (List ℕ)) : Type 0 where
  pub ready : Ready moves labels x
  pub room : HasRoom d.states d.moves x.count (lengths before)

-- the depth, and the report in the buffers
pub record ReportLeft (moves labels : Text) (x : Nodes) (before after : Buffers (List ℕ)) (d : ℕ) : Type 0 where
  pub deep : d ≡ depth_of (chain_in moves labels) (formula_in labels x)
  pub each
      : EachFilled (states_of labels) (length (moves_of moves)) x.count (report_lower (chain_in moves labels) (formula_in labels x))
      (report_upper (chain_in moves labels) (formula_in labels x)) (found (chain_in moves labels) (formula_in labels x)) before after
