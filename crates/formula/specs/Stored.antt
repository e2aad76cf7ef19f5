-- What is known of a formula's row of nodes: read back it is the formula, operands come before their node, and the tests of its nodes are
-- the paper's tests of the formula. Assumes nothing.
use Rattle.std.specs.Prelude.{◌≡◌, ℕ, ◌+◌, ◌-◌, ◌*◌, ◌≤◌, Bool, ◌&&◌, List, [], length, leb}
use Rattle.std.proofs.Math.Path.{refl, ap, subst}
use Rattle.std.proofs.Common.{sym, ◌∙◌}
use native.Mathlib.Omega.{arith}
use Rattle.std.proofs.Math.Bool.{true, false}
use Rattle.std.proofs.Math.ListN.{get_or, replicate}
use Rattle.std.proofs.Math.Seq.{get_or-append-add}
use Rattle.std.proofs.Math.Dec.{ltb}
use borrow.Author.Tests.{ltb-true, ltb-false}
use Rattle.csl.specs.Text.{Text, among}
use Rattle.csl.specs.Limits.{most_levels, most_threshold, most_hundredths, most_rate_hundredths}
use Rattle.csl.specs.Labels.{place_of}
use Rattle.csl.specs.Formula as csl
use Rattle.csl.specs.Formula.{Formula, nodes, nodes_in, levels, levels_in, labels_pass, paths_pass, times_pass, phases_pass, times_in_order}
use Rattle.formula.specs.declared.nodes.Kind.{Kind}
use Rattle.formula.specs.declared.nodes.Kind.TheVariants as kind
use Rattle.formula.specs.Nodes.{blank, kind_at, LabelKnown, same_throughout}
use Rattle.formula.specs.Operands.{OperandsBefore}
use Rattle.formula.specs.FormulaAt.{formula_at}
use Rattle.formula.specs.Pass.{place_passes, path_passes, all_below, all_passed}
use Rattle.formula.specs.Pass.{Test, Labels, Limits, Order, Load}
use Rattle.formula.specs.Listed.{listed, stored}
use Rattle.formula.specs.Names.{among_place}
use Rattle.formula.specs.Stands.{Stands, length_listed}
use Rattle.formula.specs.ReadBack.{read_back}
use Rattle.formula.specs.Each.{ByKind, each, before_kept, known_kept}
use Rattle.formula.specs.Tested.{tree_pass, labels_tree, paths_tree, tests_tree}

-- no more levels than nodes
mutual
  unfolding levels levels_in nodes nodes_in

  pub levels_nodes : (f : Formula) → levels f ≤ nodes f
  levels_nodes csl.always = omega arith
  levels_nodes (csl.label w) = omega arith
  levels_nodes (csl.negated a) = omega (arith, levels_nodes a)
  levels_nodes (csl.both a b) = omega (arith, levels_nodes a, levels_nodes b)
  levels_nodes (csl.chance r p w) = omega (arith, levels_in_lem w)

  levels_in_lem : (w : csl.Path) → levels_in w ≤ nodes_in w
  levels_in_lem (csl.until t a b) = omega (arith, levels_nodes a, levels_nodes b)
  levels_in_lem (csl.next_move a) = levels_nodes a
  levels_in_lem (csl.between t u a b) = omega (arith, levels_nodes a, levels_nodes b)

module _ (names : List Text) (f : Formula) where
  stands : Stands (stored names f).nodes (listed names f 0) 0
  unfolding stored
  stands = record { pre = []; post = replicate (64 - nodes f) blank; is = refl; at = refl }

  -- its outermost node is the last
  pub formula_stored : labels_pass (among names) f ≡ true → levels f ≤ most_levels
      → formula_at names most_levels (stored names f).nodes ((stored names f).count - 1) ≡ f
  unfolding stored
  formula_stored p h =
      let e : 0 + nodes f ≡ nodes f = omega arith in
      rw e at (read_back names (stored names f).nodes f 16 0 stands p h)

  blank_beyond : (i : ℕ) → kind_at (stored names f).nodes (nodes f + i) ≡ kind.Always
  unfolding stored
  blank_beyond i =
      ap (λ (k : ℕ). get_or (stored names f).nodes (k + i) blank) (sym (length_listed names f 0))
      ∙ get_or-append-add (listed names f 0) (replicate (64 - nodes f) blank) i blank ∙ same_throughout (64 - nodes f) i blank

  -- what each node keeps is kept at every place
  each_stored : (P : ℕ → Kind → Type 0) → ByKind names P → labels_pass (among names) f ≡ true → (k : ℕ) → P k (kind_at (stored names f).nodes k)
  unfolding stored
  each_stored P h l k = go (ltb k (nodes f)) refl
    where
      go : (b : Bool) → ltb k (nodes f) ≡ b → P k (kind_at (stored names f).nodes k)
      go true e = each names P h (stored names f).nodes f 0 stands l k (omega arith) (omega (arith, ltb-true k (nodes f) e))
      go false e =
          let i : nodes f + (k - nodes f) ≡ k = omega (arith, ltb-false k (nodes f) e) in
          let z : kind_at (stored names f).nodes k ≡ kind.Always = ap (kind_at (stored names f).nodes) (sym i) ∙ blank_beyond (k - nodes f) in
          subst (P k) (sym z) (h.on_always k)

  -- operands come before their node
  pub ordered_stored : labels_pass (among names) f ≡ true → (k : ℕ) → OperandsBefore k (kind_at (stored names f).nodes k)
  ordered_stored = each_stored OperandsBefore (before_kept names)

  -- a label's place is that of a name
  pub known_stored : labels_pass (among names) f ≡ true → (k : ℕ) → LabelKnown names (kind_at (stored names f).nodes k)
  known_stored = each_stored (λ k. LabelKnown names) (known_kept names)

  stored_tests : (test : Test) → all_passed test (stored names f) ≡ tree_pass (λ w. place_passes test (place_of names w)) (path_passes test) f
  unfolding stored all_below
  stored_tests test =
      let e : 0 + nodes f ≡ nodes f = omega arith in
      rw e at (tests_tree names test (stored names f).nodes f 0 stands)

  -- 12: "a label name not in the first line"
  pub labels_tested : all_passed (Labels (length names)) (stored names f) ≡ labels_pass (among names) f
  labels_tested =
      stored_tests (Labels (length names)) ∙ labels_tree _ f ∙ ap (λ (p : Text → Bool). labels_pass p f) (λ i w. among_place names w i)

  -- 13: "threshold over 1,000,000,000 or hours over 8,760"
  pub limits_tested : all_passed Limits (stored names f) ≡ paths_pass (λ p o. leb p most_threshold && times_pass (λ t. leb t most_hundredths) o) f
  limits_tested = stored_tests Limits ∙ paths_tree _ f

  -- 16: "when the first time exceeds the second"
  pub order_tested : all_passed Order (stored names f) ≡ paths_pass (λ p o. times_in_order o) f
  order_tested = stored_tests Order ∙ paths_tree _ f

  -- 14: "q × t over 64,000,000 for some until"
  pub load_tested : (q : ℕ) → all_passed (Load q) (stored names f) ≡ paths_pass (λ p o. phases_pass (λ t. leb (q * t) most_rate_hundredths) o) f
  load_tested q = stored_tests (Load q) ∙ paths_tree _ f
