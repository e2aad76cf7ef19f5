-- A list from a place on. Assumes nothing.
use Rattle.std.specs.Prelude.{◌≡◌, ℕ, zero, suc, ◌≤◌, ◌<◌, List, [], ◌∷◌, length, drop, get_or}
use Rattle.std.proofs.Common.{arith}

-- what stands at the place, and behind it
pub drop_here : {A : Type 0} (l : List A) (j : ℕ) (d x : A) (xs : List A) → drop j l ≡ x ∷ xs
    → (j < length l) × (get_or l j d ≡ x) × (drop (suc j) l ≡ xs)
drop_here [] zero d x xs h = let z : ◌≡◌ {A = ℕ} 0 1 = cc in absurd (omega arith)
drop_here [] (suc j) d x xs h = let z : ◌≡◌ {A = ℕ} 0 1 = cc in absurd (omega arith)
drop_here (y ∷ l) zero d x xs h = (omega arith, cc, cc)
drop_here (y ∷ l) (suc j) d x xs h = let r = drop_here l j d x xs h in (omega arith, r.1, r.2)

pub drop_none : {A : Type 0} (l : List A) (j : ℕ) → drop j l ≡ [] → length l ≤ j
drop_none [] j h = omega arith
drop_none (y ∷ l) zero h = let z : ◌≡◌ {A = ℕ} 0 1 = cc in absurd (omega arith)
drop_none (y ∷ l) (suc j) h = omega (arith, drop_none l j h)
