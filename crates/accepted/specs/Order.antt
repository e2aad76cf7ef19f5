-- Tests in their order: what the number of the first that holds says of them. Assumes nothing.
use Rattle.std.specs.Prelude.{◌≡◌, refl, Bool, true, false, cond, ◌||◌, List, [], ◌∷◌, ◌++◌, ℕ, Option, None, Some}
use Rattle.std.proofs.Common.{true≢false, sym}
use Rattle.std.proofs.Math.Bool.{and-eq-true_iff}
use Rattle.std.proofs.lemmas.Option.{none-some, same_Some}
use Rattle.csl.specs.Text.{every}
use Rattle.csl.specs.Refusal.{Test, first_of}

-- neither of two tests holds
pub neither : (a b : Bool) → (a || b) ≡ false → (a ≡ false) × (b ≡ false)
neither true b h = absurd (true≢false h)
neither false b h = (refl, h)

-- none of the tests holds
unfoldable pub NoneHolds : List Test → Type 0
NoneHolds [] = Unit {0}
NoneHolds (x ∷ xs) = (x.holds ≡ false) × NoneHolds xs

first_passed : (b : Bool) (k : ℕ) (rest : Option ℕ) → cond b (Some k) rest ≡ None → (b ≡ false) × (rest ≡ None)
first_passed true k rest h = absurd (none-some k (sym h))
first_passed false k rest h = (refl, h)

pub first_none : (xs : List Test) → first_of xs ≡ None → NoneHolds xs
unfolding first_of NoneHolds
first_none [] h = tt
first_none (x ∷ xs) h =
    let p : (x.holds ≡ false) × (first_of xs ≡ None) = first_passed x.holds x.number (first_of xs) h in
    (p.0, first_none xs p.1)

pub none_first : (xs : List Test) → NoneHolds xs → first_of xs ≡ None
unfolding first_of NoneHolds
none_first [] h = refl
none_first (x ∷ xs) h = rw h.0 (none_first xs h.1)

-- what stands after tests of which one holds is not asked; after tests of which none holds, it decides
pub first_found : (xs ys : List Test) (k : ℕ) → first_of xs ≡ Some k → first_of (xs ++ ys) ≡ Some k
unfolding first_of
first_found [] ys k h = absurd (none-some k h)
first_found (x ∷ xs) ys k h = go x.holds h (first_found xs ys k)
  where
    go : (b : Bool) → cond b (Some x.number) (first_of xs) ≡ Some k → (first_of xs ≡ Some k → first_of (xs ++ ys) ≡ Some k)
        → cond b (Some x.number) (first_of (xs ++ ys)) ≡ Some k
    go true e f = e
    go false e f = f e

pub first_after : (xs ys : List Test) → NoneHolds xs → first_of (xs ++ ys) ≡ first_of ys
unfolding first_of NoneHolds
first_after [] ys h = refl
first_after (x ∷ xs) ys h = rw h.0 (first_after xs ys h.1)

-- none of some tests and of those after them holds
pub none_left : (xs ys : List Test) → NoneHolds (xs ++ ys) → first_of xs ≡ None
unfolding first_of NoneHolds
none_left [] ys h = refl
none_left (x ∷ xs) ys h = rw h.0 (none_left xs ys h.1)

pub none_right : (xs ys : List Test) → NoneHolds (xs ++ ys) → first_of ys ≡ None
unfolding NoneHolds
none_right [] ys h = none_first ys h
none_right (x ∷ xs) ys h = none_right xs ys h.1

-- what each number passes, the number of the first that holds passes too
pub first_number : (p : ℕ → Bool) (xs : List Test) (k : ℕ) → every (λ x. p x.number) xs ≡ true → first_of xs ≡ Some k → p k ≡ true
unfolding every first_of
first_number p [] k h e = absurd (none-some k e)
first_number p (x ∷ xs) k h e =
    let i = (and-eq-true_iff (p x.number) (every (λ x. p x.number) xs)).0 h in
    go x.holds e i.0 (first_number p xs k i.1)
  where
    go : (b : Bool) → cond b (Some x.number) (first_of xs) ≡ Some k → p x.number ≡ true → (first_of xs ≡ Some k → p k ≡ true) → p k ≡ true
    go true q l f = rw (← same_Some _ _ q) l
    go false q l f = f q
