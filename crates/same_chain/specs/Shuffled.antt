-- Lists in another order, and what does not ask for the order. Assumes nothing.
use Rattle.std.specs.Prelude.{◌≡◌, refl, Bool, true, false, ◌&&◌, ◌||◌, List, [], ◌∷◌, map, ℕ, suc, ◌+◌, length}
use Rattle.std.proofs.Common.{ap, sym, ◌∙◌, arith}
use Rattle.std.proofs.Math.Bool.{cond}
use Rattle.std.proofs.Math.Dec.{eqb}
use Rattle.csl.specs.Text.{every, any}
use Rattle.csl.specs.Moves.{Move, rate_in, rates_out}

-- the same things in another order: nothing, one kept in front, the first two exchanged, or one such after another
pub data Shuffled {A : Type 0} : List A → List A → Type 0 where
  nothing : Shuffled [] []
  kept : (x : A) {l k : List A} → Shuffled l k → Shuffled (x ∷ l) (x ∷ k)
  exchanged : (x y : A) (l : List A) → Shuffled (x ∷ y ∷ l) (y ∷ x ∷ l)
  followed : {l k j : List A} → Shuffled l k → Shuffled k j → Shuffled l j

-- what is worked out one after the other, and does not mind two exchanged, is the same
pub shuffled_same : {A B : Type 0} (f : List A → B) (step : A → B → B) → ((x : A) (l : List A) → f (x ∷ l) ≡ step x (f l))
    → ((x y : A) (b : B) → step x (step y b) ≡ step y (step x b)) → {l k : List A} → Shuffled l k → f l ≡ f k
shuffled_same f step next swap nothing = refl
shuffled_same f step next swap (kept x {l} {k} h) = next x l ∙ ap (step x) (shuffled_same f step next swap h) ∙ sym (next x k)
shuffled_same f step next swap (exchanged x y l) =
    next x (y ∷ l) ∙ ap (step x) (next y l) ∙ swap x y (f l) ∙ ap (step y) (sym (next x l)) ∙ sym (next y (x ∷ l))
shuffled_same f step next swap (followed h i) = shuffled_same f step next swap h ∙ shuffled_same f step next swap i

pub shuffled_map : {A B : Type 0} (f : A → B) {l k : List A} → Shuffled l k → Shuffled (map f l) (map f k)
shuffled_map f nothing = nothing
shuffled_map f (kept x h) = kept (f x) (shuffled_map f h)
shuffled_map f (exchanged x y l) = exchanged (f x) (f y) (map f l)
shuffled_map f (followed h i) = followed (shuffled_map f h) (shuffled_map f i)

and_swap : (x y z : Bool) → (x && (y && z)) ≡ (y && (x && z))
and_swap true y z = refl
and_swap false true z = refl
and_swap false false z = refl

or_swap : (x y z : Bool) → (x || (y || z)) ≡ (y || (x || z))
or_swap true true z = refl
or_swap true false z = refl
or_swap false y z = refl

module _ {A : Type 0} {l k : List A} (h : Shuffled l k) where
  pub shuffled_every : (p : A → Bool) → every p l ≡ every p k
  unfolding every
  shuffled_every p = shuffled_same (every p) (λ x b. p x && b) (λ x l. refl) (λ x y b. and_swap (p x) (p y) b) h

  pub shuffled_any : (p : A → Bool) → any p l ≡ any p k
  unfolding any
  shuffled_any p = shuffled_same (any p) (λ x b. p x || b) (λ x l. refl) (λ x y b. or_swap (p x) (p y) b) h

  pub shuffled_length : length l ≡ length k
  shuffled_length = shuffled_same length (λ x n. suc n) (λ x l. refl) (λ x y n. refl) h

pub any_cong : {A : Type 0} (p q : A → Bool) → ((x : A) → p x ≡ q x) → (l : List A) → any p l ≡ any q l
unfolding any
any_cong p q h [] = refl
any_cong p q h (x ∷ l) = rw (h x, any_cong p q h l) refl

-- rates and totals
module _ {l k : List Move} (h : Shuffled l k) where
  pub shuffled_rates : (s t : ℕ) → rate_in l s t ≡ rate_in k s t
  unfolding rate_in
  shuffled_rates s t =
      shuffled_same (λ ms. rate_in ms s t) (λ m r. cond (eqb m.from s && eqb m.to t) m.rate 0 + r) (λ m ms. refl) (λ a b r. omega arith) h

  pub shuffled_totals : (s : ℕ) → rates_out l s ≡ rates_out k s
  unfolding rates_out
  shuffled_totals s =
      shuffled_same (λ ms. rates_out ms s) (λ m r. cond (eqb m.from s) m.rate 0 + r) (λ m ms. refl) (λ a b r. omega arith) h
