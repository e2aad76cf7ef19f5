-- What a formula has that passed its tests over a sheet. Assumes nothing.
use Rattle.std.specs.Prelude.{◌≡◌, refl, true, false, List, ℕ, ◌≤◌, ltb, Option, None, Some}
use Rattle.std.proofs.Common.{true≢false, ltb-false}
use Rattle.std.proofs.lemmas.Bool.{not-false}
use Rattle.csl.specs.Text.{Text, among}
use Rattle.csl.specs.Limits.{most_nodes, most_levels}
use Rattle.csl.specs.Formula.{Formula, nodes, levels, labels_pass, times_in_order, paths_pass}
use Rattle.csl.specs.Refusal.{formula_from, is_missing, large_formula, strange_label, in_bounds, wrong_bound, wrong_times, in_load, high_load, formula_tests, first_of}
use Rattle.accepted.specs.Order.{neither, NoneHolds, first_none}

-- a formula within the limits, over a sheet with these label names and this uniformisation rate
pub record Fitting (names : List Text) (q : ℕ) (f : Formula) : Type 0 where
  pub few_nodes : nodes f ≤ most_nodes
  pub few_levels : levels f ≤ most_levels
  pub known_labels : labels_pass (among names) f ≡ true
  pub bounds : paths_pass in_bounds f ≡ true
  pub times_in_order_lem : paths_pass (λ p o. times_in_order o) f ≡ true
  pub loads : paths_pass (in_load q) f ≡ true

-- what a text spells that passed
pub record FormulaPassed (names : List Text) (q : ℕ) (o : Option Formula) : Type 0 where
  pub spelled : o ≡ Some (formula_from o)
  pub fitting : Fitting names q (formula_from o)

spells : (o : Option Formula) → is_missing o ≡ false → o ≡ Some (formula_from o)
unfolding is_missing formula_from
spells None h = absurd (true≢false h)
spells (Some f) h = refl

pub formula_passed : (names : List Text) (q : ℕ) (o : Option Formula) → first_of (formula_tests names q o) ≡ None → FormulaPassed names q o
unfolding NoneHolds formula_tests large_formula strange_label wrong_bound wrong_times high_load
formula_passed names q o h =
    let n : NoneHolds (formula_tests names q o) = first_none (formula_tests names q o) h in
    let size = neither (ltb most_nodes (nodes (formula_from o))) (ltb most_levels (levels (formula_from o))) n.1.0 in
    record {
      spelled = spells o n.0;
      fitting = record {
        few_nodes = ltb-false _ _ size.0;
        few_levels = ltb-false _ _ size.1;
        known_labels = not-false _ n.1.1.0;
        bounds = not-false _ n.1.1.1.0;
        times_in_order_lem = not-false _ n.1.1.1.1.0;
        loads = not-false _ n.1.1.1.1.1.0;
      };
    }
