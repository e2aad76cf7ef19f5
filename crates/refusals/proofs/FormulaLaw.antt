-- Tests 10 to 14 and 16, in their order, by what was read of the formula's text. Assumes nothing.
use mathlib.Core.Path.{◌≡◌, refl, sym, ap, ◌∙◌}
use Prim.Native.Nat.{ℕ}
use mathlib.Core.Bool.{Bool, true, false, not, ◌||◌}
use mathlib.Core.List.{List, [], ◌∷◌}
use Rattle.std.specs.Prelude.{Option, None, Some, option_map, Result, Ok, Err, IfOk}
use Rattle.verdicts.specs.Refusal.{refusal_in}
use Rattle.verdicts.specs.declared.refusal.Refusal.{Refusal}
use lib.ListN.{length}
use lib.Dec.{ltb}
use borrow.Author.Tests.{le-leb, ltb-false, not-true, not-false}
use Rattle.csl.specs.Text.{Text}
use Rattle.csl.specs.Limits.{most_nodes, most_levels}
use Rattle.csl.specs.Formula.{Formula, nodes, levels}
use Rattle.csl.specs.Refusal.{formula_from, is_missing, large_formula, strange_label, wrong_bound, wrong_times, high_load, test, formula_tests, first_of}
use Rattle.accepted.specs.Order.{neither}
use Rattle.formula.specs.Reading.{reading_of, reading_few}
use Rattle.formula.specs.Listed.{stored}
use Rattle.accepted.specs.Formula.{formula_passed}
use Rattle.formula.specs.Pass.{all_passed, Labels, Limits, Order, Load}
use Rattle.formula.specs.Stored.{labels_tested, limits_tested, order_tested, load_tested}
use Rattle.formula.specs.declared.nodes.Nodes.{Nodes}
use Rattle.formula.specs.declared.reading.Reading.{Reading}

some_is : {x y : Reading} → Some x ≡ Some y → x ≡ y
some_is e = cc

-- the tests of a formula within its size, by its nodes
abbrev by_nodes : ℕ → ℕ → Nodes → Option ℕ
by_nodes names q x =
    first_of
    (test 12 (not (all_passed (Labels names) x)) ∷ test 13 (not (all_passed Limits x)) ∷ test 16 (not (all_passed Order x))
    ∷ test 14 (not (all_passed (Load q) x)) ∷ [])

module _ (e : Reading) (names q : ℕ) where
  -- an answer, whatever formula was read over whatever names
  abbrev pub Answered : Option ℕ → Type 0
  Answered r = (ns : List Text) (f : Formula) → Some e ≡ reading_of ns (Some f) → names ≡ length ns → r ≡ first_of (formula_tests ns q (Some f))

  pub at_11 : (ltb most_nodes e.count || ltb most_levels e.levels) ≡ true → Answered (Some 11)
  unfolding reading_of formula_tests first_of is_missing large_formula formula_from
  at_11 h ns f is count = let k : (ltb most_nodes (nodes f) || ltb most_levels (levels f)) ≡ true = rw (some_is is) at h in rw k

  module _ (small : (ltb most_nodes e.count || ltb most_levels e.levels) ≡ false) where
    -- what is left is asked of the nodes
    by_nodes_lem : {r : Option ℕ} → r ≡ by_nodes names q e.nodes → Answered r
    unfolding reading_of formula_tests first_of is_missing large_formula strange_label wrong_bound wrong_times high_load formula_from
    by_nodes_lem h ns f is count =
        let k : (ltb most_nodes (nodes f) || ltb most_levels (levels f)) ≡ false = rw (some_is is) at small in
        h ∙ sym
        (rw (
          some_is is,
          count,
          le-leb (nodes f) most_nodes (ltb-false _ _ (neither (ltb most_nodes (nodes f)) _ k).0),
          le-leb (levels f) most_levels (ltb-false _ _ (neither (ltb most_nodes (nodes f)) _ k).1),
          k,
          labels_tested,
          limits_tested,
          order_tested,
          load_tested,
        ))

    module _ {l : Bool} (labels : l ≡ all_passed (Labels names) e.nodes) where
      pub at_12 : not l ≡ true → Answered (Some 12)
      unfolding first_of
      at_12 h = by_nodes_lem (rw (sym labels ∙ not-true _ h))

      module _ (t : not l ≡ false) {m : Bool} (limits : m ≡ all_passed Limits e.nodes) where
        labels_pass : all_passed (Labels names) e.nodes ≡ true
        labels_pass = sym labels ∙ not-false _ t

        pub at_13 : not m ≡ true → Answered (Some 13)
        unfolding first_of
        at_13 h = by_nodes_lem (rw (labels_pass, sym limits ∙ not-true _ h))

        module _ (u : not m ≡ false) {n : Bool} (order : n ≡ all_passed Order e.nodes) where
          limits_pass : all_passed Limits e.nodes ≡ true
          limits_pass = sym limits ∙ not-false _ u

          pub at_16 : not n ≡ true → Answered (Some 16)
          unfolding first_of
          at_16 h = by_nodes_lem (rw (labels_pass, limits_pass, sym order ∙ not-true _ h))

          module _ (v : not n ≡ false) {k : Bool} (load : k ≡ all_passed (Load q) e.nodes) where
            order_passes : all_passed Order e.nodes ≡ true
            order_passes = sym order ∙ not-false _ v

            pub at_14 : not k ≡ true → Answered (Some 14)
            unfolding first_of
            at_14 h = by_nodes_lem (rw (labels_pass, limits_pass, order_passes, sym load ∙ not-true _ h))

            pub at_end : not k ≡ false → Answered None
            unfolding first_of
            at_end h = by_nodes_lem (rw (labels_pass, limits_pass, order_passes, sym load ∙ not-false _ h))

-- no formula
pub unread : (names : List Text) (q : ℕ) (o : Option Formula) → reading_of names o ≡ None → Some 10 ≡ first_of (formula_tests names q o)
unfolding reading_of formula_tests first_of is_missing
unread names q None is = refl
unread names q (Some f) is = absurd cc

-- a formula that was read and judged
module _ (names : List Text) (q : ℕ) (o : Option Formula) {e : Reading} (is : reading_of names o ≡ Some e) where
  pub judged : {count : ℕ} {r : Option ℕ} → count ≡ length names → Answered e count q r → r ≡ first_of (formula_tests names q o)
  unfolding reading_of
  judged {r = r} all h = go o is
    where
      go : (o : Option Formula) → reading_of names o ≡ Some e → r ≡ first_of (formula_tests names q o)
      go None i = absurd cc
      go (Some f) i = h names f (sym i) all

  pub laid : None ≡ first_of (formula_tests names q o) → option_map (stored names) o ≡ Some e.nodes
  laid h =
      let good = formula_passed names q o (sym h) in
      let f : Formula = formula_from o in
      let known : reading_of names (Some f) ≡ Some e = rw (← good.spelled) is in
      rw good.spelled (ap (option_map (λ (x : Reading). x.nodes)) (sym (reading_few names f good.fitting.few_nodes good.fitting.few_levels) ∙ known))

  -- so that what passes was laid
  pub passed_laid : {A : Type 0} (r : Result A Refusal) → refusal_in r ≡ first_of (formula_tests names q o)
      → IfOk r (λ _. option_map (stored names) o ≡ Some e.nodes)
  passed_laid (Ok x) h = laid h
  passed_laid (Err k) h = tt
