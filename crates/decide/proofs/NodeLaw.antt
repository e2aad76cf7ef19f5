-- The report of a node, by its kind, from what its operands' rows hold. Assumes nothing.
use mathlib.Core.Path.{◌≡◌, ap, sym, ◌∙◌}
use mathlib.Core.Bool.{and-eq-true_iff}
use mathlib.Core.List.{List, []}
use Prim.Native.Nat.{ℕ, zero, suc, ◌+◌, ◌*◌, ◌≤◌, ◌<◌}
use native.Mathlib.Omega.{arith}
use native.Mathlib.Nat.{zero-add}
use lib.ListN.{length, get_or}
use lib.Dec.{leb}
use borrow.Author.Tests.{leb-true, ltb-true}
use Rattle.csl.specs.Limits.{most_threshold}
use Rattle.csl.specs.Formula.{Formula, mapped}
use Rattle.csl.specs.Formula as csl
use Rattle.csl.specs.Chain.{Chain}
use Rattle.csl.specs.Verdicts.{conjunction}
use Rattle.csl.specs.Report.{depth_of}
use Rattle.csl.specs.Lent.{verdict_byte}
use Rattle.numbers.specs.Filled.{at, table_at, filled_as, Twin}
use Rattle.bounds.specs.Found.{report_lower, report_upper, found, found_in}
use Rattle.verdicts.specs.Paper.{comparison_of}
use Rattle.verdicts.specs.declared.comparison.Comparison as code
use Rattle.vectors.specs.Places.{marks_from}
use Rattle.verdict_rows.specs.Byte.{label_byte, negated_byte}
use Rattle.formula.specs.Nodes.{path_meant}
use Rattle.formula.specs.Operands.{operands_in, operands_of}
use Rattle.formula.specs.FormulaAt.{formula_over, path_over}
use Rattle.formula.specs.declared.nodes.Path.{Path}
use Rattle.formula.specs.declared.nodes.Path.TheVariants as path
use Rattle.formula.specs.declared.nodes.Kind.{Kind}
use Rattle.formula.specs.declared.nodes.Kind.TheVariants as kind
use Rattle.formula.specs.declared.operands.Operands.{Operands}
use Rattle.formula.specs.declared.operands.Operands.TheVariants.{None, One, Two}
use Rattle.decide.specs.Rows.{rows_of, RowsHold}
use Rattle.decide.specs.Plain.{PlainAsked, LabelAsked, BothAsked, Plain, BothLeaves}
use Rattle.decide.specs.Chance.{ChanceAsked, ChanceDecided, ChanceLeaves}
use Rattle.decide.specs.Node.{NodeAsked, NodeDecided, NodeLeaves}
use Rattle.decide.proofs.ReportLaw.{plain_decides, label_byte_lem, negated_byte_lem, joined_byte_lem}

own_row : (o : Operands) (n : ℕ) → n ≤ rows_of o * n
own_row None n = omega arith
own_row (One x) n = omega arith
own_row (Two x y) n = omega arith

-- the report of a `P` is that of its path
chance_report : (c : Chain) (r : csl.Comparison) (p : ℕ) (look : ℕ → Formula) (o : Path) {n : ℕ} {l l' m m' : List ℕ} {d : ℕ}
    → ChanceDecided c r p o (λ x. found c (look x)) n l l' m m' d
    → NodeDecided c (csl.chance r p (path_over (mapped look (path_meant o)))) (operands_in (path_meant o)) n l l' m m' d
unfolding found found_in report_lower report_upper depth_of
chance_report c r p look (path.Until t x y) z =
    record { row = z.row; ends = z.report.ends; range = z.report.range; deep = z.report.deep }
chance_report c r p look (path.Next x) z = record { row = z.row; ends = z.report.ends; range = z.report.range; deep = z.report.deep }
chance_report c r p look (path.Between zero u x y) z =
    record { row = z.row; ends = z.report.ends; range = z.report.range; deep = z.report.deep }
chance_report c r p look (path.Between (suc t) u x y) z =
    record { row = z.row; ends = z.report.ends; range = z.report.range; deep = z.report.deep }

module _ {mv ix l marks : List ℕ} {k : Kind} {n q : ℕ} (a : NodeAsked mv ix l marks k n q) where
  by_kind : {l' m : List ℕ} {r : ℕ} (g : Kind) → k ≡ g
      → ((look : ℕ → Formula) → RowsHold (operands_of g) (λ x. found a.c (look x)) marks n
      → NodeDecided a.c (formula_over a.names look g) (operands_of g) n l l' marks m r)
      → NodeLeaves a l' m r
  by_kind g e f look h = rw e (f look (rw e at h))

  long : n + n ≤ length l
  long = omega (arith, a.prepared.rates.long)

  pub may_plain : PlainAsked l marks n
  may_plain =
      record { states = a.prepared.rates.lines.states; long = a.prepared.rates.long; held = omega (arith, own_row (operands_of k) n, a.held) }

  -- `tt`
  pub always_left : {l' m : List ℕ} {r : ℕ} → k ≡ kind.Always → Plain (λ s. 1) n l l' marks m r → NodeLeaves a l' m r
  unfolding found
  always_left e t =
      by_kind kind.Always e λ look h. plain_decides a.c csl.always None tt long t.row (λ s b. table_at t.row s b) t.ends t.deep

  -- a label
  module _ {place : ℕ} (e : k ≡ kind.Label place) where
    known : place < length a.names
    known = ltb-true place (length a.names) (rw e at a.label)

    pub may_label : LabelAsked l marks place n
    may_label = record { plain = may_plain; below = omega (arith, known, a.few) }

    pub label_left : {l' m : List ℕ} {r : ℕ} → Plain (λ s. label_byte (at l (marks_from n + s)) place) n l l' marks m r → NodeLeaves a l' m r
    unfolding found
    label_left t =
        by_kind (kind.Label place) e λ look h.
        let row = filled_as _ (λ s b. label_byte_lem (at l (marks_from n + s)) place (a.marked place known s b)) t.row in
        plain_decides a.c (csl.label (get_or a.names place [])) None tt long row (λ s b. table_at row s b) t.ends t.deep

  -- `!`
  pub negated_left : {x : ℕ} {l' m : List ℕ} {r : ℕ} → k ≡ kind.Negated x → Plain (λ s. negated_byte (at marks s)) n l l' marks m r → NodeLeaves a l' m r
  unfolding found
  negated_left {x} e t =
      by_kind (kind.Negated x) e λ look h.
      let row = filled_as _ (λ s b. negated_byte_lem (found a.c (look x) s) (at marks s) (h s b)) t.row in
      plain_decides a.c (csl.negated (look x)) (One x) tt long row (λ s b. table_at row s b) t.ends t.deep

  -- `&`
  module _ {x y : ℕ} (e : k ≡ kind.Both x y) where
    pub may_both : BothAsked l marks n
    may_both = record { plain = may_plain; held = let h : 2 * n ≤ length marks = rw e at a.held in omega arith }

    pub both_left : {l' m : List ℕ} {r : ℕ} → BothLeaves n l l' marks m r → NodeLeaves a l' m r
    unfolding found
    both_left {l'} {m} t =
        by_kind (kind.Both x y) e λ look h.
        let row : Twin (λ s. verdict_byte (conjunction (found a.c (look x) s) (found a.c (look y) s))) (λ _. 0) 0 n n marks m
        = record {
          same = t.rows.same;
          first = λ s b.
              t.rows.first s b
              ∙ joined_byte_lem (found a.c (look x) s) (found a.c (look y) s) (at marks s) (at marks (n + s)) (h.0 s b) (h.1 s b);
          second = t.rows.second;
          else = t.rows.else;
        } in
        plain_decides a.c (csl.both (look x) (look y)) (Two x y) {m₀ = marks} {m = m} tt long row
        (λ s b. ap (at m) (sym (zero-add s)) ∙ row.first s b) t.ends t.deep

  -- `P`
  module _ {sign : code.Comparison} {p : ℕ} {o : Path} (e : k ≡ kind.Chance sign p o) where
    abbrev pub may_chance : ChanceAsked mv ix l marks o p n q
    may_chance =
        record {
          c = a.c;
          shows = a.shows;
          prepared = a.prepared;
          owns = a.owns;
          few_words = a.few_words;
          index = λ h. a.index (rw e h);
          in_order = rw e at a.in_order;
          load = rw e at a.load;
          threshold = leb-true p most_threshold ((and-eq-true_iff (leb p most_threshold) _).0 (rw e at a.limits)).0;
          held = rw e at a.held;
        }

    pub chance_left : {l' m : List ℕ} {r : ℕ} → ((b : ChanceAsked mv ix l marks o p n q) → ChanceLeaves b (comparison_of sign) l' m r) → NodeLeaves a l' m r
    chance_left t =
        by_kind (kind.Chance sign p o) e λ look h. chance_report a.c (comparison_of sign) p look o (t may_chance (λ x. found a.c (look x)) h)

pub ruleset node_laws = (always_left, label_left, negated_left, both_left, chance_left)
