-- A node, once its operands are decided. Assumes nothing.
use mathlib.Core.Path.{◌≡◌, refl, ap, sym, subst, ◌∙◌}
use mathlib.Core.List.{List}
use Prim.Native.Nat.{ℕ, suc, ◌+◌, ◌*◌, ◌-◌, ◌≤◌, ◌<◌}
use native.Mathlib.Omega.{arith}
use native.Mathlib.Nat.{zero-add}
use mathlib.Core.Bool.{Bool, true, false}
use lib.Dec.{ltb}
use lib.ListN.{length}
use borrow.Author.Tests.{ltb-true, ltb-false}
use Rattle.csl.specs.Formula.{levels}
use Rattle.numbers.specs.Filled.{at, Table, table, table_at, table_rest}
use Rattle.incoming_moves.specs.Shown.{index_kept}
use Rattle.vectors.specs.Places.{owns_from, marks_from}
use Rattle.vectors.specs.Prepared.{prepared_kept}
use Rattle.vectors.specs.Owns.{owns_kept}
use Rattle.formula.specs.Nodes.{kind_at}
use Rattle.formula.specs.Operands.{operands_of}
use Rattle.formula.specs.FormulaAt.{formula_at, formula_over}
use Rattle.formula.specs.declared.nodes.Kind.{Kind}
use Rattle.formula.specs.declared.operands.Operands.{Operands}
use Rattle.formula.specs.declared.operands.Operands.TheVariants.{None, One, Two}
use Rattle.decide.specs.Asked.{DecideAsked, formula_of, Decides}
use Rattle.decide.specs.Rows.{rows_of, RowLeft}
use Rattle.decide.specs.Node.{NodeAsked, NodeDecided, NodeLeaves}
use Rattle.decide.specs.Enough.{levels_some}
use Rattle.decide.proofs.OperandsLaw.{operand_rows, OperandsLeft}
use Rattle.decide.proofs.AskedLaw.{under, of_kind}

-- the row that is left stands for those of the operands, where 0 stood behind it before
row_stands : (o : Operands) (f : ℕ → ℕ) (n : ℕ) (m₀ m₁ m₂ : List ℕ) → ((k : ℕ) → n ≤ k → at m₀ k ≡ 0) → ((k : ℕ) → rows_of o * n ≤ k → at m₁ k ≡ 0)
    → length m₁ ≡ length m₀ → RowLeft o f n m₁ m₂ → Table f m₀ m₂ n
row_stands None f n m₀ m₁ m₂ c d e t = table (t.same ∙ e) (table_at t) (λ k h. table_rest t k h ∙ d k (omega arith) ∙ sym (c k h))
row_stands (One x) f n m₀ m₁ m₂ c d e t = table (t.same ∙ e) (table_at t) (λ k h. table_rest t k h ∙ d k (omega arith) ∙ sym (c k h))
row_stands (Two x y) f n m₀ m₁ m₂ c d e t =
    table (t.same ∙ e) (λ k h. ap (at m₂) (sym (zero-add k)) ∙ t.first k h) (λ k h. go k h (ltb k (n + n)) refl)
  where
    go : (k : ℕ) → n ≤ k → (z : Bool) → ltb k (n + n) ≡ z → at m₂ k ≡ at m₀ k
    go k h true i =
        let j : k < n + n = ltb-true k (n + n) i in
        let x : n + (k - n) ≡ k = omega arith in
        ap (at m₂) (sym x) ∙ t.second (k - n) (omega arith) ∙ sym (c k h)
    go k h false i =
        let j : n + n ≤ k = ltb-false k (n + n) i in
        t.else k (λ b z. omega arith) (λ b z. omega arith) ∙ d k (omega arith) ∙ sym (c k h)

module _ {mv ix l marks : List ℕ} {nodes : List Kind} {node limit n q : ℕ} (a : DecideAsked mv ix l marks nodes node limit n q) where
  -- there is a level to go down
  pub level_there : 1 ≤ limit
  level_there = omega (arith, a.deep, levels_some (formula_of a))

  more : limit ≡ suc (limit - 1)
  more = omega (arith, level_there)

  pub same_formula : formula_at a.names (suc (limit - 1)) nodes node ≡ formula_of a
  same_formula = ap (λ (z : ℕ). formula_at a.names z nodes node) (sym more)

  -- its operands are asked
  abbrev pub may_operands : DecideAsked mv ix l marks nodes node (suc (limit - 1)) n q
  may_operands =
      record {
        c = a.c;
        names = a.names;
        few = a.few;
        shows = a.shows;
        prepared = a.prepared;
        owns = a.owns;
        few_words = a.few_words;
        index = a.index;
        marked = a.marked;
        inside = a.inside;
        fits = a.fits;
        deep = omega (arith, ap levels same_formula, a.deep);
        room = rw same_formula a.room;
        clear = a.clear;
      }

  module _ {l₁ m₁ : List ℕ} (left : OperandsLeft may_operands l₁ m₁) where
    -- and then the node itself
    abbrev pub may_report : NodeAsked mv ix l₁ m₁ (kind_at nodes node) n q
    may_report =
        record {
          c = a.c;
          names = a.names;
          few = a.few;
          shows = a.shows;
          prepared = prepared_kept a.prepared left.same (λ k h i o. left.after k h);
          owns = owns_kept a.owns left.after;
          few_words = a.few_words;
          index = λ e. index_kept (a.index node (omega arith) e) (λ t h. left.after (owns_from n + t) (omega arith));
          marked = λ i h s k. rw (left.after (marks_from n + s) (omega arith)) (a.marked i h s k);
          label = (a.fits node (omega arith)).label;
          limits = (a.fits node (omega arith)).limits;
          in_order = (a.fits node (omega arith)).in_order;
          load = (a.fits node (omega arith)).load;
          held = omega (arith, left.held, operand_rows may_operands (operands_of (kind_at nodes node)) refl);
        }

    pub is_decided_lem : {l₂ m₂ : List ℕ} {r : ℕ} → ((b : NodeAsked mv ix l₁ m₁ (kind_at nodes node) n q) → NodeLeaves b l₂ m₂ r)
        → Decides a.c (formula_of a) n l l₂ marks m₂ r
    is_decided_lem {l₂} {m₂} {r} t =
        let z : NodeDecided a.c (formula_over a.names (under may_operands) (kind_at nodes node)) (operands_of (kind_at nodes node)) n l₁ l₂ m₁ m₂ r
        = t may_report (under may_operands) left.rows in
        let e : formula_over a.names (under may_operands) (kind_at nodes node) ≡ formula_of a = sym (of_kind may_operands (kind_at nodes node) refl) ∙ same_formula in
        let d : Decides a.c (formula_over a.names (under may_operands) (kind_at nodes node)) n l l₂ marks m₂ r
        = record {
          row = row_stands (operands_of (kind_at nodes node)) _ n marks m₁ m₂ a.clear left.clear left.held z.row;
          ends = record {
            same = z.ends.same ∙ left.same;
            lowers = z.ends.lowers;
            uppers = z.ends.uppers;
            after = λ k h. z.ends.after k h ∙ left.after k h;
          };
          range = z.range;
          deep = z.deep;
        } in
        subst (λ f. Decides a.c f n l l₂ marks m₂ r) e d
