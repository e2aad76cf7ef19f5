-- Each number of the order is that of a state. Assumes nothing.
use Rattle.std.specs.Prelude.{◌≡◌, refl, Bool, true, false, ◌&&◌, List, [], ◌∷◌, ℕ, zero, suc, ◌<◌, length, take, get_or, ltb, leb}
use Rattle.std.specs.List.{list_all}
use Rattle.std.proofs.Common.{ap, arith, length-take-le, ltb-true, leb-true, get_or-take}
use Rattle.std.proofs.Math.Bool.{false≢true}
use Rattle.csl.specs.Text.{every}
use Rattle.report.specs.Listing.{are_states, has_all, Complete}

-- std's test of a whole list is the definitions'
pub every_is : (p : ℕ → Bool) (l : List ℕ) → every p l ≡ list_all p l
unfolding every
every_is p [] = refl
every_is p (a ∷ l) = ap (λ r. p a && r) (every_is p l)

-- a test that holds of a list holds at each place
every_at : (p : ℕ → Bool) (l : List ℕ) (i : ℕ) → every p l ≡ true → i < length l → p (get_or l i 0) ≡ true
unfolding every
every_at p [] i h k = absurd (omega arith)
every_at p (a ∷ l) i h k = go (p a) refl h (every_at p l) i k
  where
    go : (b : Bool) → p a ≡ b → (b && every p l) ≡ true → ((i : ℕ) → every p l ≡ true → i < length l → p (get_or l i 0) ≡ true) → (i : ℕ)
        → i < suc (length l) → p (get_or (a ∷ l) i 0) ≡ true
    go false e h f i k = absurd (false≢true h)
    go true e h f zero k = e
    go true e h f (suc i) k = f i h (omega arith)

-- the number at a place of the order is below n
pub state_within : {n : ℕ} {l u b o : List ℕ} (i : ℕ) → Complete n l u b o → i < n → get_or o i 0 < n
state_within {n} {o = o} i c h =
    let long : length (take n o) ≡ n = length-take-le n o c.places in
    let low = ltb-true _ n (every_at (λ t. ltb t n) (take n o) i c.states (omega arith)) in
    omega (arith, get_or-take n o i 0 h, low)

-- the test says that all numbers are there
all_true : (a b c d e : Bool) → (a && b && c && d && e) ≡ true → (a ≡ true) × (b ≡ true) × (c ≡ true) × (d ≡ true) × (e ≡ true)
all_true true true true true true h = (refl, refl, refl, refl, refl)
all_true true true true true false h = absurd (false≢true h)
all_true true true true false e h = absurd (false≢true h)
all_true true true false d e h = absurd (false≢true h)
all_true true false c d e h = absurd (false≢true h)
all_true false b c d e h = absurd (false≢true h)

pub all_there : (n : ℕ) (l u b o : List ℕ) → has_all n l u b o ≡ true → Complete n l u b o
all_there n l u b o h =
    let e = all_true (leb n (length l)) (leb n (length u)) (leb n (length b)) (leb n (length o)) (are_states n o) h in
    record {
      lowers = leb-true n (length l) e.0;
      uppers = leb-true n (length u) e.1;
      bytes = leb-true n (length b) e.2;
      places = leb-true n (length o) e.3;
      states = e.4;
    }
