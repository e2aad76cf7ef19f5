-- The last step to be made, looked for from the depth down. Assumes nothing.
use mathlib.Core.Path.{◌≡◌, refl, ap, ◌∙◌}
use mathlib.Core.List.{List}
use Prim.Native.Nat.{ℕ, zero, suc, ◌+◌, ◌*◌, ◌-◌, ◌/◌, ◌≤◌, ◌<◌}
use native.Mathlib.Omega.{arith}
use borrow.Author.Tests.{lt-ltb, le-ltb}
use Rattle.bounds.specs.Weight.{peak}
use Rattle.bounds.specs.Last.{last_from}
use Rattle.bounds.specs.Ends.{negligible}
use Rattle.vectors.specs.Places.{at, total_at, weight_at, total_in}
use Rattle.phase.specs.Load.{LightAsked}

-- `rest` of the weights after step k are dropped, and the answer is the same from there on
pub record Dropped (l : List ℕ) (n depth most rest k : ℕ) : Type 0 where
  pub light : rest ≤ (depth - k) * peak
  pub same : last_from (weight_at l n) most k rest ≡ last_from (weight_at l n) most depth 0

pub start : (l : List ℕ) (n depth most : ℕ) → Dropped l n depth most 0 depth
start l n depth most = record { light = omega arith; same = refl }

-- the rule at a step after 0, as the code counts down
last_down : (w : ℕ → ℕ) (most k rest : ℕ) → 0 < k → rest + w k ≤ most → last_from w most (k - 1) (rest + w k) ≡ last_from w most k rest
unfolding last_from
last_down w most zero rest h e = absurd (omega arith)
last_down w most (suc k) rest h e =
    let z : suc k - 1 ≡ k = omega arith in
    rw (z, le-ltb most (rest + w (suc k)) e) refl

last_here : (w : ℕ → ℕ) (most k rest : ℕ) → 0 < k → most < rest + w k → k ≡ last_from w most k rest
unfolding last_from
last_here w most zero rest h e = absurd (omega arith)
last_here w most (suc k) rest h e = rw (lt-ltb most (rest + w (suc k)) e) refl

last_none : (w : ℕ → ℕ) (most k rest : ℕ) → k ≤ 0 → k ≡ last_from w most k rest
unfolding last_from
last_none w most zero rest h = refl
last_none w most (suc k) rest h = absurd (omega arith)

module _ {l : List ℕ} {n depth rest k z : ℕ} (asked : LightAsked l n depth) (y : z ≡ total_at n) (v : Dropped l n depth (at l z / negligible) rest k) where
  answer : (r : ℕ) → r ≡ last_from (weight_at l n) (at l z / negligible) k rest → r ≡ last_from (weight_at l n) (total_in l n / negligible) depth 0
  answer r e = e ∙ v.same ∙ ap (λ (x : ℕ). last_from (weight_at l n) (at l x / negligible) depth 0) y

  pub finish : k ≤ 0 → 0 ≡ last_from (weight_at l n) (total_in l n / negligible) depth 0
  finish h = let e : 0 ≡ k = omega arith in answer 0 (e ∙ last_none (weight_at l n) (at l z / negligible) k rest h)

  module _ (h : 0 < k) (within : k ≤ depth) where
    weight_most : weight_at l n k ≤ peak
    weight_most = asked.weights k within

    pub found : at l z / negligible < rest + weight_at l n k → k ≡ last_from (weight_at l n) (total_in l n / negligible) depth 0
    found e = answer k (last_here (weight_at l n) (at l z / negligible) k rest h e)

    pub turn : rest + weight_at l n k ≤ at l z / negligible → Dropped l n depth (at l z / negligible) (rest + weight_at l n k) (k - 1)
    turn e =
        record {
          light = let s : depth - (k - 1) ≡ suc (depth - k) = omega arith in rw s (omega (arith, v.light, weight_most));
          same = last_down (weight_at l n) (at l z / negligible) k rest h e ∙ v.same;
        }

pub ruleset last_laws = (start, finish, found, turn)
