-- What `==` of two slices tells, and a test that each byte passes, in csl's words. Assumes nothing.
use Rattle.std.specs.Prelude.{◌≡◌, refl, ℕ, Bool, [], ◌∷◌, ◌&&◌, nat_eq}
use Rattle.std.proofs.Common.{ap, ◌∙◌}
use Rattle.std.specs.List.{list_all}
use Rattle.std.specs.Cmp.Lexicographic.{pointwise}
use Rattle.csl.specs.Text.{Text, same, every}

-- two slices are equal where they have the same bytes
pub equal_is : (s t : Text) → pointwise nat_eq s t ≡ same s t
unfolding same
equal_is [] [] = refl
equal_is [] (b ∷ t) = refl
equal_is (a ∷ s) [] = refl
equal_is (a ∷ s) (b ∷ t) = ap (λ x. nat_eq a b && x) (equal_is s t)

-- the answer of `==`
pub equal_tells : (s t : Text) {r : Bool} → r ≡ pointwise nat_eq s t → r ≡ same s t
equal_tells s t h = h ∙ equal_is s t

pub every_is : (p : ℕ → Bool) (s : Text) → every p s ≡ list_all p s
unfolding every
every_is p [] = refl
every_is p (b ∷ s) = ap (λ x. p b && x) (every_is p s)
