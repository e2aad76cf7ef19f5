-- The states that are yet to be reached, counted: their bytes are 1, and the others 0. Assumes nothing.
use Rattle.std.specs.Prelude.{◌≡◌, refl, Bool, true, false, List, ℕ, zero, suc, ◌+◌, ◌≤◌, ◌<◌, ◌==◌, length, take, count_by}
use Rattle.std.proofs.Common.{arith, add-one, eqb-true}
use Rattle.std.proofs.lemmas.Bool.{eqb-false}
use Rattle.std.proofs.lemmas.List.Sums.{count_by_more_yes, count_by_more_no}
use Rattle.csl.specs.Chain.{sum_to}
use Rattle.numbers.specs.Filled.{at}

pub ones_summed : (rows : List ℕ) (n : ℕ) → n ≤ length rows → ((s : ℕ) → s < n → at rows s ≤ 1) → count_by (λ x. x == 1) (take n rows) ≡ sum_to (at rows) n
unfolding sum_to
ones_summed rows zero h b = refl
ones_summed rows (suc n) h b = go (at rows n == 1) refl (ones_summed rows n (omega arith) (λ s l. b s (omega arith)))
  where
    go : (t : Bool) → (at rows n == 1) ≡ t → count_by (λ x. x == 1) (take n rows) ≡ sum_to (at rows) n
        → count_by (λ x. x == 1) (take (suc n) rows) ≡ sum_to (at rows) n + at rows n
    go true e r =
        let more = count_by_more_yes (λ x. x == 1) rows n 0 (omega arith) e in
        omega (arith, rw add-one at more, r, eqb-true (at rows n) 1 e)
    go false e r =
        let more = count_by_more_no (λ x. x == 1) rows n 0 (omega arith) e in
        let none : at rows n ≡ 1 → ⊥ = eqb-false (at rows n) 1 e in
        omega (arith, rw add-one at more, r, b n (omega arith))
