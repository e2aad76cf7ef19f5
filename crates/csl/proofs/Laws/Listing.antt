-- The printed text looks at the rows of the states below n alone. Assumes nothing.
use Rattle.std.specs.Prelude.{◌≡◌, ℕ, zero, suc, ◌<◌, length}
use Rattle.std.proofs.Math.Path.{refl}
use Rattle.std.proofs.Common.{◌∙◌, ⊎_elim, arith, length-append}
use mathlib.Core.List.{List, [], ◌∷◌}
use Rattle.csl.specs.Verdicts.{Verdict}
use Rattle.csl.specs.Order.{worst_first, by_number, In}
use Rattle.csl.specs.Order.In.{here, there}
use Rattle.csl.specs.Report.{rows_text, listing_text, report_text}
use Rattle.csl.proofs.Laws.Order.{rows_rank, in_cases, no_member, in_append, ordered_within, order_same}

-- the states by their numbers
pub by_number_within : (n s : ℕ) → In s (by_number n) → s < n
unfolding by_number
by_number_within zero s i = no_member i
by_number_within (suc n) s i =
    ⊎_elim (λ x. let y : s < n = by_number_within n s x in let z : s < suc n = omega arith in z)
    (λ x. ⊎_elim (λ (e : s ≡ n). let z : s < suc n = omega arith in z) no_member (in_cases x)) (in_append (by_number n) (n ∷ []) s i)

pub by_number_length : (n : ℕ) → length (by_number n) ≡ n
unfolding by_number
by_number_length zero = refl
by_number_length (suc n) = length-append (by_number n) (n ∷ []) ∙ omega (arith, by_number_length n)

module _ (lower upper lower' upper' : ℕ → ℕ) (v v' : ℕ → Verdict) (n : ℕ) (a : (s : ℕ) → s < n → lower s ≡ lower' s)
    (b : (s : ℕ) → s < n → upper s ≡ upper' s) (c : (s : ℕ) → s < n → v s ≡ v' s) (d : ℕ) where
  rows_same : (l : List ℕ) → ((s : ℕ) → In s l → s < n) → rows_text l lower upper d v ≡ rows_text l lower' upper' d v'
  unfolding rows_text
  rows_same [] h = refl
  rows_same (s ∷ l) h = rw (a s (h s here), b s (h s here), c s (h s here), rows_same l (λ t i. h t (there i))) refl

  pub report_same : report_text n lower upper d v ≡ report_text n lower' upper' d v'
  unfolding report_text listing_text
  report_same =
      rw (
        rows_same (by_number n) (by_number_within n),
        rows_same (worst_first lower upper n) (ordered_within _ (rows_rank lower upper) n),
        order_same lower upper lower' upper' n a b,
      ) refl
