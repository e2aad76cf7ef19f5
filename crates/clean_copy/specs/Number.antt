-- The numbers that a copy is refused with: 1 to 17. Assumes nothing.
use Rattle.std.specs.Prelude.{◌≡◌, [], ◌∷◌, ◌++◌, ℕ, ◌≤◌, ◌<◌, ltb, Some}
use Rattle.std.proofs.Math.Path.{refl}
use Rattle.std.proofs.Math.Dec.{leb}
use borrow.Author.Tests.{ltb-true, leb-true}
use Rattle.csl.specs.Text.{Text, every}
use Rattle.csl.specs.Refusal.{test, sheet_tests}
use Rattle.csl.specs.Copy.{short_copy, copy_refusal}
use Rattle.accepted.specs.Order.{first_number}

module _ (moves labels : Text) (lent k : ℕ) (h : copy_refusal moves labels lent ≡ Some k) where
  pub copy_number_some : 0 < k
  unfolding copy_refusal sheet_tests every
  copy_number_some = ltb-true 0 k (first_number (ltb 0) (sheet_tests moves labels ++ (test 17 (short_copy moves labels lent) ∷ [])) k refl h)

  pub copy_number_most : k ≤ 17
  unfolding copy_refusal sheet_tests every
  copy_number_most = leb-true k 17 (first_number (λ n. leb n 17) (sheet_tests moves labels ++ (test 17 (short_copy moves labels lent) ∷ [])) k refl h)
