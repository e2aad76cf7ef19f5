-- All states' values one step on, row after row. Assumes nothing.
use mathlib.Core.Path.{◌≡◌, ap, sym, ◌∙◌}
use mathlib.Core.List.{List}
use Prim.Native.Nat.{ℕ, suc, ◌+◌, ◌*◌, ◌<◌}
use native.Mathlib.Omega.{arith}
use native.Mathlib.Numerals.{add-one}
use lib.Dec.{ltb}
use lib.ListN.{length, set}
use Rattle.numbers.specs.Filled.{Filled, filled_none, filled_more}
use Rattle.rate_matrix.specs.Words.{at, row_of}
use Rattle.rate_matrix.specs.Sorted.{row_zero}
use Rattle.vectors.specs.Places.{value_at, held_at}
use Rattle.vectors.specs.Prepared.{Rates, rates_kept}
use Rattle.phase.specs.Value.{next}
use Rattle.phase.specs.Bound.{next_cong}
use Rattle.phase.specs.Moving.{Moving}

-- those of the states before s are moved, and the row of s begins at `begin`
pub record MovedTo (mv e l : List ℕ) (n q begin s : ℕ) : Type 0 where
  pub begins : begin ≡ row_of mv (length mv) s
  pub values : Filled (next mv (length mv) q (held_at e n q) (value_at e n)) (3 * n) s e l

pub start : (mv e : List ℕ) (n q : ℕ) → MovedTo mv e e n q 0 0
start mv e n q = record { begins = sym (row_zero mv (length mv)); values = filled_none _ (3 * n) e }

module _ {mv l₀ l : List ℕ} {n q begin s : ℕ} (asked : Moving mv l₀ n q) (v : MovedTo mv l₀ l n q begin s) (h : s < n) where
  rates : Rates mv l n q
  rates = rates_kept asked.rates v.values.same (λ k a b. v.values.after k (omega arith))

  -- the row's end, as read
  end_is : at l (7 * n + s) ≡ row_of mv (length mv) (suc s)
  end_is = rates.ends s h

  stay_is : (g : ℕ) → at l (5 * n + g) ≡ at l₀ (5 * n + g)
  stay_is g = v.values.after (5 * n + g) (omega arith)

  value_is : (g : ℕ) → g < n → at l (2 * n + g) ≡ at l₀ (2 * n + g)
  value_is g b = v.values.before (2 * n + g) (omega arith)

  pub turn : {r : ℕ} → r ≡ next mv (length mv) q (held_at l n q) (value_at l n) s → MovedTo mv l₀ (set l (3 * n + s) r) n q (at l (7 * n + s)) (s + 1)
  turn {r} u =
      record {
        begins = rw add-one end_is;
        values = filled_more r v.values (omega (arith, rates.long))
            (u
            ∙ next_cong mv (length mv) n q rates.lines.targets (held_at l n q) (held_at l₀ n q) (value_at l n) (value_at l₀ n)
            (λ g b. ap (ltb q) (stay_is g)) value_is s h);
      }

pub ruleset values_laws = (start, turn)
