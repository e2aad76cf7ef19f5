-- Every node of a formula fits, if its operands stand before it and the tests that are put to all nodes hold. Assumes nothing.
use Rattle.std.specs.Prelude.{◌≡◌, Bool, true, List, ℕ, zero, suc, ◌<◌, length}
use Rattle.std.proofs.Math.Bool.{and-eq-true_iff}
use Rattle.std.proofs.Common.{arith, below_more}
use Rattle.csl.specs.Text.{Text}
use Rattle.formula.specs.Nodes.{kind_at}
use Rattle.formula.specs.Operands.{OperandsBefore}
use Rattle.formula.specs.Pass.{all_below, place_passed, all_passed, Labels, Limits, Order, Load}
use Rattle.formula.specs.declared.nodes.Nodes.{Nodes}
use Rattle.decide.specs.Asked.{NodeFits}

pub each_below : (p : ℕ → Bool) (n : ℕ) → all_below p n ≡ true → (k : ℕ) → k < n → p k ≡ true
unfolding all_below
each_below p zero h k i = absurd (omega arith)
each_below p (suc n) h k i =
    let b = (and-eq-true_iff (all_below p n) (p n)).0 h in
    below_more (λ j. p j ≡ true) n (each_below p n b.0) b.1 k (omega arith)

pub nodes_fit : (names : List Text) (q : ℕ) (f : Nodes) → ((k : ℕ) → OperandsBefore k (kind_at f.nodes k))
    → all_passed (Labels (length names)) f ≡ true → all_passed Limits f ≡ true → all_passed Order f ≡ true → all_passed (Load q) f ≡ true
    → (k : ℕ) → k < f.count → NodeFits names q k (kind_at f.nodes k)
nodes_fit names q f before labels limits in_order load k h =
    record {
      before = before k;
      label = each_below (place_passed (Labels (length names)) f.nodes) f.count labels k h;
      limits = each_below (place_passed Limits f.nodes) f.count limits k h;
      in_order = each_below (place_passed Order f.nodes) f.count in_order k h;
      load = each_below (place_passed (Load q) f.nodes) f.count load k h;
    }
