-- Sums over the weights that stand in the lent words are those that the bounds speak of. Assumes nothing.
use Rattle.std.specs.Prelude.{◌≡◌, List, ℕ, suc, ◌+◌, ◌-◌, ◌/◌, ◌≤◌}
use Rattle.std.proofs.Math.Path.{refl}
use Rattle.std.proofs.Common.{arith}
use Rattle.std.proofs.Math.Numerals.{add-one}
use Rattle.csl.specs.Limits.{rate_hundredths}
use Rattle.csl.specs.Chain.{sum_to}
use Rattle.numbers.specs.Sum.{sum_cong}
use Rattle.bounds.specs.Weight.{low}
use Rattle.bounds.specs.Unit.{one, part}
use Rattle.bounds.specs.Ends.{gathered}
use Rattle.bounds.specs.Upper.{gatherable}
use Rattle.vectors.specs.Places.{weight_at}
use Rattle.phase.specs.Ends.{whole_of}

module _ (l : List ℕ) (n a last : ℕ) (weights : (k : ℕ) → k ≤ last → weight_at l n k ≡ low a rate_hundredths (a / rate_hundredths) k) where
  pub sum_gathered : (v : ℕ → ℕ) → sum_to (λ k. part (weight_at l n k) (v k)) (last + 1) ≡ gathered a rate_hundredths (a / rate_hundredths) last v
  unfolding gathered
  sum_gathered v =
      rw add-one
      (sum_cong (λ k. part (weight_at l n k) (v k)) (λ k. part (low a rate_hundredths (a / rate_hundredths) k) (v k)) (suc last)
      (λ k b. rw (weights k (omega arith)) refl))

  pub whole_gatherable : (e : ℕ) → whole_of l n last e ≡ gatherable a rate_hundredths (a / rate_hundredths) last e
  unfolding gatherable gathered
  whole_gatherable e = rw (sum_gathered (λ k. one - (e + k)), add-one) refl
