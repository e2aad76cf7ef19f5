-- What could be summed. Assumes nothing.
use mathlib.Core.Path.{◌≡◌}
use mathlib.Core.List.{List}
use Prim.Native.Nat.{ℕ, ◌+◌, ◌-◌, ◌≤◌}
use native.Mathlib.Omega.{arith}
use Rattle.csl.specs.Chain.{sum_to}
use Rattle.numbers.specs.Sum.{sum_zero, sum_next, sum_most}
use Rattle.bounds.specs.Unit.{one, part, most_part, part_most}
use Rattle.weights.specs.Asked.{Adds}
use Rattle.vectors.specs.Places.{at, weights_from}
use Rattle.phase.specs.Ends.{GatherAsked}

-- the part of step k
abbrev pub part_at : List ℕ → ℕ → ℕ → ℕ → ℕ
part_at l n e k = part (at l (weights_from n + k)) (one - (e + k))

module _ {l : List ℕ} {n last error g k : ℕ} (asked : GatherAsked l n last error) (is : g ≡ sum_to (part_at l n error) k) (h : k ≤ last)
    (m : ℕ) (y : m ≡ one - (error + k)) where
  each : (i : ℕ) → i ≤ last → part_at l n error i ≤ most_part
  each i b = part_most (at l (weights_from n + i)) (one - (error + i)) (asked.light.weights i b) (omega arith)

  pub may_add : Adds g (at l (weights_from n + k)) m
  may_add =
      record {
        weight = asked.light.weights k h;
        value = omega (arith, y);
        fits = rw y
            (omega (arith, is, asked.light.limit, each k h, sum_most (part_at l n error) most_part k (λ i b. each i (omega arith))));
      }

pub ruleset gather_laws = (sum_zero, sum_next, may_add)
