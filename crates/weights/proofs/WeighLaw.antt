-- The three parts of the table of weights, one after the other. Assumes nothing.
use mathlib.Core.Path.{◌≡◌, refl, ◌∙◌}
use mathlib.Core.List.{List}
use Prim.Native.Nat.{ℕ, ◌+◌}
use native.Mathlib.Omega.{arith}
use native.Mathlib.Numerals.{add-one}
use Rattle.csl.specs.Chain.{sum_to}
use Rattle.numbers.specs.Sum.{sum_cong}
use Rattle.numbers.specs.Filled.{Filled}
use Rattle.bounds.specs.Weight.{low, apart, low_most}
use Rattle.bounds.specs.Ends.{total}
use Rattle.weights.specs.Asked.{weighed, Total, Weigh}

module _ {e w x : List ℕ} {from m d a b : ℕ} (p : Weigh e from m d a b) (t : Filled (low a b m) from (m + 1) e w)
    (u : Filled (low a b m) from (d + 1) w x) where
  pub may_total : Total x from m d
  may_total =
      record {
        deep = p.deep;
        long = omega (arith, t.same, u.same, p.long);
        limit = p.limit;
        light = λ k h. rw (u.filled k h) (low_most p.half.middle k);
      }

  pub is_table : Filled (low a b m) from (d + 1) e x
  is_table =
      record {
        same = u.same ∙ t.same;
        filled = u.filled;
        before = λ k h. u.before k h ∙ t.before k h;
        after = λ k h. u.after k h ∙ t.after k (omega (arith, p.deep));
      }

  pub is_total : (r : ℕ) → r ≡ sum_to (weighed x from m) (d + 1) + weighed x from m d → r ≡ total a b m d
  unfolding total
  is_total r q =
      q ∙
      rw (sum_cong (weighed x from m) (λ k. low a b m k + apart m k) (d + 1) (λ k h. rw (u.filled k h) refl), u.filled d (omega arith), add-one) refl

pub ruleset weigh_laws = (is_table, is_total)
