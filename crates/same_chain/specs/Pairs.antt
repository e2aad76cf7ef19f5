-- The pairs of a chain: they have its rates, name its states, and rise. Assumes nothing.
use Rattle.std.specs.Prelude.{◌≡◌, Bool, ◌&&◌, ◌||◌, ltb}
use Rattle.std.proofs.Math.Path.{refl, sym}
use Rattle.std.proofs.Common.{◌∙◌}
use Rattle.std.proofs.Math.Bool.{true, false, cond, and-eq-true_iff}
use mathlib.Core.List.{List, [], ◌∷◌, ◌++◌, append_assoc, append-nil}
use Rattle.std.proofs.Math.Logic.{⊎_elim}
use Prim.Native.Nat.{ℕ, zero, suc, ◌+◌, ◌≤◌, ◌<◌}
use native.Mathlib.Omega.{arith}
use Rattle.std.proofs.Math.Nat.{le-suc_iff}
use Rattle.std.proofs.Math.Dec.{eqb}
use borrow.Author.Tests.{eqb-true, eqb-false, eq-eqb, ne_eqb, lt-ltb}
use Rattle.csl.specs.Moves.{Move, rate_in}
use Rattle.csl.specs.Copy.{is_before, is_rising, pairs_from, pairs_below}

-- each move of a list is so
unfoldable pub Every : (Move → Type 0) → List Move → Type 0
Every P [] = Unit {0}
Every P (m ∷ ms) = P m × Every P ms

every_both : (P : Move → Type 0) (l k : List Move) → Every P l → Every P k → Every P (l ++ k)
unfolding Every
every_both P [] k h i = i
every_both P (m ∷ l) k h i = (h.0, every_both P l k h.1 i)

pub every_weaker : (P Q : Move → Type 0) → ((m : Move) → P m → Q m) → (l : List Move) → Every P l → Every Q l
unfolding Every
every_weaker P Q f [] h = tt
every_weaker P Q f (m ∷ l) h = (f m h.0, every_weaker P Q f l h.1)

rate_append : (l k : List Move) (s t : ℕ) → rate_in (l ++ k) s t ≡ rate_in l s t + rate_in k s t
unfolding rate_in
rate_append [] k s t = omega arith
rate_append (m ∷ l) k s t = omega (arith, rate_append l k s t)

module _ (rate : ℕ → ℕ → ℕ) where
  -- a pair, and what is listed of it: nothing where it has no rate
  abbrev pair : ℕ → ℕ → Move
  pair s t = record { from = s; to = t; rate = rate s t }

  abbrev listed : ℕ → ℕ → List Move
  listed s t = cond (eqb (rate s t) 0) [] (pair s t ∷ [])

  rate_listed : (a b s t : ℕ) → rate_in (listed a b) s t ≡ cond (eqb a s && eqb b t) (rate a b) 0
  unfolding rate_in
  rate_listed a b s t = go (eqb (rate a b) 0) refl
    where
      none : (x : Bool) (r : ℕ) → r ≡ 0 → 0 ≡ cond x r 0
      none true r h = sym h
      none false r h = refl

      go : (x : Bool) → eqb (rate a b) 0 ≡ x → rate_in (cond x [] (pair a b ∷ [])) s t ≡ cond (eqb a s && eqb b t) (rate a b) 0
      go true e = none (eqb a s && eqb b t) (rate a b) (eqb-true _ _ e)
      go false e = omega arith

  -- rates: none from another state, none to a state not listed yet, else that of the pair
  from_other : (a m s t : ℕ) → (a ≡ s → ⊥) → rate_in (pairs_from rate a m) s t ≡ 0
  unfolding pairs_from rate_in
  from_other a zero s t d = refl
  from_other a (suc m) s t d =
      rate_append (pairs_from rate a m) _ s t ∙ rw (from_other a m s t d, rate_listed a m s t, ne_eqb a s d) refl

  to_later : (s m t : ℕ) → m ≤ t → rate_in (pairs_from rate s m) s t ≡ 0
  unfolding pairs_from rate_in
  to_later s zero t h = refl
  to_later s (suc m) t h =
      rate_append (pairs_from rate s m) _ s t
      ∙ rw (to_later s m t (omega arith), rate_listed s m s t, eq-eqb s s refl, ne_eqb m t (λ e. omega arith)) refl

  from_own : (s m t : ℕ) → t < m → rate_in (pairs_from rate s m) s t ≡ rate s t
  unfolding pairs_from
  from_own s zero t h = absurd (omega arith)
  from_own s (suc m) t h =
      rate_append (pairs_from rate s m) _ s t
      ∙ ⊎_elim
      (λ (l : t < m). rw (from_own s m t l, rate_listed s m s t, eq-eqb s s refl, ne_eqb m t (λ e. omega arith)) (omega arith))
      (λ (e : suc t ≡ suc m).
      let q : t ≡ m = omega arith in
      rw (q, to_later s m m (omega arith), rate_listed s m s m, eq-eqb s s refl, eq-eqb m m refl) (omega arith))
      (le-suc_iff.0 h)

  from_later : (n m s t : ℕ) → m ≤ s → rate_in (pairs_below rate n m) s t ≡ 0
  unfolding pairs_below rate_in
  from_later n zero s t h = refl
  from_later n (suc m) s t h =
      rate_append (pairs_below rate n m) (pairs_from rate m n) s t
      ∙ rw (from_later n m s t (omega arith), from_other m n s t (λ e. omega arith)) refl

  pub pairs_rate : (n m s t : ℕ) → s < m → t < n → rate_in (pairs_below rate n m) s t ≡ rate s t
  unfolding pairs_below
  pairs_rate n zero s t h l = absurd (omega arith)
  pairs_rate n (suc m) s t h l =
      rate_append (pairs_below rate n m) (pairs_from rate m n) s t
      ∙ ⊎_elim
      (λ (k : s < m). rw (pairs_rate n m s t k l, from_other m n s t (λ e. omega arith)) (omega arith))
      (λ (e : suc s ≡ suc m). let q : s ≡ m = omega arith in rw (q, from_later n m m t (omega arith), from_own m n t l) (omega arith))
      (le-suc_iff.0 h)

  -- what holds of each pair that has a rate holds of each that is listed
  every_listed : (P : Move → Type 0) (s t : ℕ) → ((rate s t ≡ 0 → ⊥) → P (pair s t)) → Every P (listed s t)
  unfolding Every
  every_listed P s t h = go (eqb (rate s t) 0) refl
    where
      go : (b : Bool) → eqb (rate s t) 0 ≡ b → Every P (cond b [] (pair s t ∷ []))
      go true e = tt
      go false e = (h (eqb-false _ _ e), tt)

  every_from : (P : Move → Type 0) (s m : ℕ) → ((t : ℕ) → t < m → (rate s t ≡ 0 → ⊥) → P (pair s t)) → Every P (pairs_from rate s m)
  unfolding pairs_from Every
  every_from P s zero h = tt
  every_from P s (suc m) h =
      every_both P (pairs_from rate s m) _ (every_from P s m (λ t l. h t (omega arith))) (every_listed P s m (h m (omega arith)))

  every_below : (P : Move → Type 0) (n m : ℕ) → ((s t : ℕ) → s < m → t < n → (rate s t ≡ 0 → ⊥) → P (pair s t)) → Every P (pairs_below rate n m)
  unfolding pairs_below Every
  every_below P n zero h = tt
  every_below P n (suc m) h =
      every_both P (pairs_below rate n m) (pairs_from rate m n) (every_below P n m (λ s t l. h s t (omega arith))) (every_from P m n (λ t l. h m t (omega arith) l))

  -- a pair of states below n, with its rate, which is not 0
  pub record IsPair (n : ℕ) (m : Move) : Type 0 where
    pub from_in : m.from < n
    pub to_in : m.to < n
    pub is : m.rate ≡ rate m.from m.to
    pub some : m.rate ≡ 0 → ⊥

  pub are_pairs : (n : ℕ) → Every (IsPair n) (pairs_below rate n n)
  are_pairs n = every_below (IsPair n) n n (λ s t l k d. record { from_in = l; to_in = k; is = refl; some = d })

  -- they rise: each is listed behind those before it
  abbrev Earlier : ℕ → ℕ → Move → Type 0
  Earlier s t m = is_before m (pair s t) ≡ true

  rising_more : (l : List Move) (m : Move) → is_rising l ≡ true → Every (λ k. is_before k m ≡ true) l → is_rising (l ++ (m ∷ [])) ≡ true
  unfolding is_rising Every
  rising_more [] m h e = refl
  rising_more (a ∷ []) m h e = rw e.0 refl
  rising_more (a ∷ b ∷ l) m h e =
      let i = (and-eq-true_iff (is_before a b) (is_rising (b ∷ l))).0 h in
      (and-eq-true_iff (is_before a b) (is_rising (b ∷ (l ++ (m ∷ []))))).1 (i.0, rising_more (b ∷ l) m i.1 e.1)

  rising_listed : (l : List Move) (s t : ℕ) → is_rising l ≡ true → Every (Earlier s t) l → is_rising (l ++ listed s t) ≡ true
  rising_listed l s t h e = go (eqb (rate s t) 0)
    where
      go : (b : Bool) → is_rising (l ++ cond b [] (pair s t ∷ [])) ≡ true
      go true = rw (append-nil l) h
      go false = rising_more l (pair s t) h e

  before_row : (a b s t : ℕ) → a < s → (ltb a s || eqb a s && ltb b t) ≡ true
  before_row a b s t h = rw (lt-ltb a s h) refl

  in_row : (s b t : ℕ) → b < t → (ltb s s || eqb s s && ltb b t) ≡ true
  in_row s b t h = go (ltb s s)
    where
      go : (x : Bool) → (x || eqb s s && ltb b t) ≡ true
      go true = refl
      go false = rw (eq-eqb s s refl, lt-ltb b t h) refl

  rising_from_lem : (n s m : ℕ) → is_rising (pairs_below rate n s) ≡ true → is_rising (pairs_below rate n s ++ pairs_from rate s m) ≡ true
  unfolding pairs_from
  rising_from_lem n s zero h = rw (append-nil (pairs_below rate n s)) h
  rising_from_lem n s (suc m) h =
      let e : Every (Earlier s m) (pairs_below rate n s ++ pairs_from rate s m)
      = every_both (Earlier s m) (pairs_below rate n s) (pairs_from rate s m)
      (every_below (Earlier s m) n s (λ a b l k d. before_row a b s m l)) (every_from (Earlier s m) s m (λ b l d. in_row s b m l)) in
      rw (← append_assoc (pairs_below rate n s) (pairs_from rate s m) (listed s m))
      (rising_listed (pairs_below rate n s ++ pairs_from rate s m) s m (rising_from_lem n s m h) e)

  pub pairs_rise : (n m : ℕ) → is_rising (pairs_below rate n m) ≡ true
  unfolding pairs_below is_rising
  pairs_rise n zero = refl
  pairs_rise n (suc m) = rising_from_lem n m n (pairs_rise n m)
