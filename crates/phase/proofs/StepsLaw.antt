-- The values that a step has made may be taken over and added. Assumes nothing.
use mathlib.Core.Path.{◌≡◌, ap}
use mathlib.Core.List.{List}
use Prim.Native.Nat.{ℕ, ◌+◌, ◌*◌, ◌≤◌, ◌<◌}
use native.Mathlib.Omega.{arith}
use lib.ListN.{length}
use Rattle.bounds.specs.Unit.{one, part_most}
use Rattle.vectors.specs.Places.{at, weights_from, number_at, sum_at, weight_at, number_in}
use Rattle.vectors.specs.Prepared.{rates_slow}
use Rattle.phase.specs.Bound.{next_most}
use Rattle.phase.specs.Moving.{Moved}
use Rattle.phase.specs.Steps.{AdvanceAsked, StepAsked, next_of}

module _ {mv l : List ℕ} {n q : ℕ} (p : StepAsked mv l n q) (a : ℕ) (z : a ≡ number_at n) where
  number_is : at l a ≡ number_in l n
  number_is = ap (at l) z

  -- the step's weight, and a sum with its part, fit
  weight_is : at l (weights_from n + (at l a + 1)) ≡ weight_at l n (number_in l n + 1)
  weight_is = ap (λ (x : ℕ). at l (weights_from n + (x + 1))) number_is

  next_small : (s : ℕ) → s < n → next_of mv l n q s ≤ one
  next_small s b =
      next_most mv (length mv) n q p.moving.rates.lines.targets _ _ p.moving.values s b (rates_slow p.moving.rates s b)

  module _ {l₁ : List ℕ} (m : Moved mv n q l l₁) where
    sum_is : (s : ℕ) → s < n → sum_at l₁ n s ≡ sum_at l n s
    sum_is s b = m.after (4 * n + s) (omega arith)

    pub may_take : AdvanceAsked l₁ n (at l (weights_from n + (at l a + 1)))
    may_take =
        record {
          states = p.moving.rates.lines.states;
          room = omega (arith, m.same, p.moving.rates.long);
          weight = rw weight_is p.weight;
          values = λ s b. rw (m.filled s b) (next_small s b);
          fits = λ s b. rw (sum_is s b, m.filled s b, weight_is) (omega (
            arith,
            p.sums s b,
            part_most (weight_at l n (number_in l n + 1)) (next_of mv l n q s) p.weight (next_small s b),
            p.limit,
          ));
        }
