-- Which bytes a token has that is the same as a mark of one or two, and tokens that are not empty. Assumes nothing.
use mathlib.Core.Path.{◌≡◌, refl}
use Prim.Native.Nat.{ℕ, ◌≤◌}
use native.Mathlib.Omega.{arith}
use mathlib.Core.Bool.{true, ◌&&◌, and-true}
use mathlib.Core.List.{[], ◌∷◌}
use Rattle.std.proofs.lemmas.Bool.Decides.{nat_tests}
use lib.ListN.{length, get_or}
use lib.Dec.{eqb}
use Rattle.csl.specs.Text.{Text, same, every}
use Rattle.csl.specs.Labels.{is_word}

pub same_one : (w : Text) (a : ℕ) → same w (a ∷ []) ≡ (eqb (length w) 1 && eqb (get_or w 0 0) a)
unfolding same
same_one [] a = refl
same_one (b ∷ []) a = rw and-true
same_one (b ∷ c ∷ w) a = grind (arith, nat_tests)

pub same_two : (w : Text) (a b : ℕ) → same w (a ∷ b ∷ []) ≡ (eqb (length w) 2 && eqb (get_or w 0 0) a && eqb (get_or w 1 0) b)
unfolding same
same_two [] a b = refl
same_two (c ∷ []) a b = grind (arith, nat_tests)
same_two (c ∷ d ∷ []) a b = rw and-true
same_two (c ∷ d ∷ e ∷ w) a b = grind (arith, nat_tests)

-- what is a word has a byte
pub word_some : (w : Text) → is_word w ≡ true → 1 ≤ length w
unfolding is_word every
word_some [] e = let z : ◌≡◌ {A = ℕ} 0 1 = cc in omega arith
word_some (b ∷ w) e = omega arith

pub ruleset mark_laws = (same_one, same_two, nat_tests)

pub ruleset word_laws = (same_one, same_two, word_some, nat_tests)
