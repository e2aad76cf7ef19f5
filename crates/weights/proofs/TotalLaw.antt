-- The total: it fits, since each of at most 1025 terms is below 2 ^ 41. Assumes nothing.
use mathlib.Core.Path.{◌≡◌}
use mathlib.Core.List.{List}
use Prim.Native.Nat.{ℕ, ◌+◌, ◌≤◌, ◌<◌}
use native.Mathlib.Omega.{arith}
use mir.Val.{Fits}
use mir.Syntax.{w64}
use Rattle.csl.specs.Chain.{sum_to}
use Rattle.numbers.specs.Sum.{sum_zero, sum_next, sum_most}
use Rattle.weights.specs.Asked.{weighed, Total}

module _ {l : List ℕ} {p m d : ℕ} (asked : Total l p m d) where
  one_most : (k : ℕ) → k < d + 1 → weighed l p m k ≤ 2199023255552
  one_most k b = omega (arith, asked.light k b, asked.limit, asked.deep)

  pub sum_fits : {t k : ℕ} → t ≡ sum_to (weighed l p m) k + weighed l p m d → k ≤ d → (r : ℕ) → r ≡ weighed l p m k → Fits w64 (t + r)
  sum_fits {t} {k} is h r e =
      let few : k ≤ 1024 = omega (arith, asked.limit) in
      omega (
        arith,
        sum_most (weighed l p m) 2199023255552 k (λ i b. one_most i (omega arith)),
        one_most k (omega arith),
        one_most d (omega arith),
      )

pub ruleset total_laws = (sum_zero, sum_next, sum_fits)
