-- A row added up. Assumes nothing.
use mathlib.Core.Path.{◌≡◌, refl}
use mathlib.Core.List.{List}
use Prim.Native.Nat.{ℕ, ◌+◌, ◌*◌, ◌^◌, ◌<◌}
use native.Mathlib.Omega.{arith}
use mir.Val.{Fits}
use mir.Syntax.{w64}
use Rattle.csl.specs.Chain.{sum_to}
use Rattle.numbers.specs.Sum.{running_is, running_fits}
use Rattle.rate_matrix.specs.Words.{at, to_of, rate_of, pull}
use Rattle.vectors.specs.Places.{value_at}
use Rattle.phase.specs.Moving.{RowAsked}

module _ {mv l : List ℕ} {n begin end x : ℕ} (sum j : ℕ) (asked : RowAsked mv l n begin end x)
    (is : sum + sum_to (pull mv (value_at l n)) begin ≡ x + sum_to (pull mv (value_at l n)) j) (h : j < end)
    (rate to : ℕ) (r : rate ≡ rate_of mv j) (t : to ≡ to_of mv j) where
  term : rate * at l (2 * n + to) ≡ pull mv (value_at l n) j
  term = rw (r, t) refl

  pub sum_fits : Fits w64 (sum + rate * at l (2 * n + to))
  sum_fits = omega (arith, term, running_fits (pull mv (value_at l n)) sum x begin end j (2 ^ 64) is asked.fits h)

  pub product_fits : Fits w64 (rate * at l (2 * n + to))
  product_fits = omega (arith, sum_fits)

  pub turn : sum + rate * at l (2 * n + to) + sum_to (pull mv (value_at l n)) begin ≡ x + sum_to (pull mv (value_at l n)) (j + 1)
  turn = rw term (running_is (pull mv (value_at l n)) sum x begin j is)

pub ruleset row_laws = (sum_fits, product_fits, turn)
