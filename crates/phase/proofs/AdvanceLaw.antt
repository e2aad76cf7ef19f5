-- Values taken over and added to the sums. Assumes nothing.
use mathlib.Core.Path.{◌≡◌, refl, ◌∙◌}
use mathlib.Core.List.{List}
use Prim.Native.Nat.{ℕ, ◌+◌, ◌*◌, ◌<◌}
use native.Mathlib.Omega.{arith}
use lib.ListN.{set}
use lib.Seq.{get_or-set_other}
use Rattle.numbers.specs.Filled.{Twin, twin_more}
use Rattle.bounds.specs.Unit.{part}
use Rattle.vectors.specs.Places.{at, next_at, sum_at}
use Rattle.phase.specs.Steps.{AdvanceAsked}

module _ {e l : List ℕ} {n w i : ℕ} (asked : AdvanceAsked e n w)
    (v : Twin (next_at e n) (λ j. sum_at e n j + part w (next_at e n j)) (2 * n) (4 * n) i e l) (h : i < n) where
  value_is : at l (3 * n + i) ≡ at e (3 * n + i)
  value_is = v.else (3 * n + i) (λ a b. absurd (omega arith)) (λ a b. absurd (omega arith))

  sum_is : (x : ℕ) → at (set l (2 * n + i) x) (4 * n + i) ≡ at e (4 * n + i)
  sum_is x =
      get_or-set_other l (2 * n + i) (4 * n + i) x 0 (omega arith)
      ∙ v.else (4 * n + i) (λ a b. absurd (omega arith)) (λ a b. absurd (omega arith))

  pub turn : (y : ℕ) → y ≡ at (set l (2 * n + i) (at l (3 * n + i))) (4 * n + i) + part w (at l (3 * n + i))
      → Twin (next_at e n) (λ j. sum_at e n j + part w (next_at e n j)) (2 * n) (4 * n) (i + 1) e (set (set l (2 * n + i) (at l (3 * n + i))) (4 * n + i) y)
  turn y x =
      twin_more (at l (3 * n + i)) y v (omega arith) (omega (arith, v.same, asked.room)) value_is
      (x ∙ rw (sum_is (at l (3 * n + i)), value_is) refl)
