-- Lists of moves that rise: two of them that have the same rates between all states, and no rate of 0, are the same list. Assumes nothing.
use Rattle.std.specs.Prelude.{◌≡◌, refl, Bool, true, false, ◌&&◌, ◌||◌, List, [], ◌∷◌, ℕ, ◌≤◌, ◌<◌, eqb, ltb}
use Rattle.std.proofs.Common.{sym, ◌∙◌, arith, eqb-true, eq-eqb, ne_eqb, lt-ltb, ltb-true, ltb-false}
use Rattle.std.proofs.Math.Bool.{and-eq-true_iff}
use Rattle.std.proofs.lemmas.Bool.{false≢true}
use Rattle.csl.specs.Moves.{Move, rate_in}
use Rattle.csl.specs.Copy.{is_before, is_rising}
use Rattle.accepted.specs.Rates.{Moving}
use Rattle.same_chain.specs.Pairs.{Every, every_weaker}

-- which of two moves comes first, by their states
data Order (a b : Move) : Type 0 where
  earlier : is_before a b ≡ true → Order a b
  later : is_before b a ≡ true → Order a b
  level : a.from ≡ b.from → a.to ≡ b.to → Order a b

-- as two numbers
record Before (a b : Move) : Type 0 where
  pub not_after : a.from ≤ b.from
  pub in_row : a.from ≡ b.from → a.to < b.to

before_is : (a b : Move) → is_before a b ≡ true → Before a b
before_is a b h = go (ltb a.from b.from) (eqb a.from b.from) refl refl h
  where
    go : (x y : Bool) → ltb a.from b.from ≡ x → eqb a.from b.from ≡ y → (x || y && ltb a.to b.to) ≡ true → Before a b
    go true y e f k =
        let l : a.from < b.from = ltb-true _ _ e in
        record { not_after = omega arith; in_row = λ z. absurd (omega arith) }
    go false true e f k =
        let l : a.from ≡ b.from = eqb-true _ _ f in
        record { not_after = omega arith; in_row = λ z. ltb-true _ _ k }
    go false false e f k = absurd (false≢true k)

is_before_lem : (a b : Move) → Before a b → is_before a b ≡ true
is_before_lem a b h = go (ltb a.from b.from) refl
  where
    go : (x : Bool) → ltb a.from b.from ≡ x → (x || eqb a.from b.from && ltb a.to b.to) ≡ true
    go true e = refl
    go false e =
        let z : a.from ≡ b.from = omega (arith, ltb-false a.from b.from e, h.not_after) in
        rw (eq-eqb a.from b.from z, lt-ltb a.to b.to (h.in_row z)) refl

before_trans : (a b c : Move) → is_before a b ≡ true → is_before b c ≡ true → is_before a c ≡ true
before_trans a b c h k =
    let p : Before a b = before_is a b h in
    let q : Before b c = before_is b c k in
    is_before_lem a c
    (record {
      not_after = omega (arith, p.not_after, q.not_after);
      in_row = λ z. omega (arith, p.in_row (omega (arith, p.not_after, q.not_after)), q.in_row (omega (arith, p.not_after, q.not_after)));
    })

order : (a b : Move) → Order a b
order a b = go (ltb a.from b.from) (ltb b.from a.from) (ltb a.to b.to) (ltb b.to a.to) refl refl refl refl
  where
    go : (x y u v : Bool) → ltb a.from b.from ≡ x → ltb b.from a.from ≡ y → ltb a.to b.to ≡ u → ltb b.to a.to ≡ v → Order a b
    go true y u v e f g h =
        let l : a.from < b.from = ltb-true _ _ e in
        earlier (is_before_lem a b (record { not_after = omega arith; in_row = λ z. absurd (omega arith) }))
    go false true u v e f g h =
        let l : b.from < a.from = ltb-true _ _ f in
        later (is_before_lem b a (record { not_after = omega arith; in_row = λ z. absurd (omega arith) }))
    go false false true v e f g h =
        earlier (is_before_lem a b (record { not_after = ltb-false _ _ f; in_row = λ z. ltb-true _ _ g }))
    go false false false true e f g h =
        later (is_before_lem b a (record { not_after = ltb-false _ _ e; in_row = λ z. ltb-true _ _ h }))
    go false false false false e f g h =
        level (omega (arith, ltb-false a.from b.from e, ltb-false b.from a.from f)) (omega (arith, ltb-false a.to b.to g, ltb-false b.to a.to h))

-- the first comes before all others
pub first_before : (a : Move) (ms : List Move) → is_rising (a ∷ ms) ≡ true → Every (λ m. is_before a m ≡ true) ms
unfolding is_rising Every
first_before a [] h = tt
first_before a (b ∷ ms) h =
    let i = (and-eq-true_iff (is_before a b) (is_rising (b ∷ ms))).0 h in
    (i.0, every_weaker (λ m. is_before b m ≡ true) (λ m. is_before a m ≡ true) (λ m k. before_trans a b m i.0 k) ms (first_before b ms i.1))

later_rising : (a : Move) (ms : List Move) → is_rising (a ∷ ms) ≡ true → is_rising ms ≡ true
unfolding is_rising
later_rising a [] h = refl
later_rising a (b ∷ ms) h = ((and-eq-true_iff (is_before a b) (is_rising (b ∷ ms))).0 h).1

-- moves that all come after a pair have no rate for it
not_level : (a m : Move) → is_before a m ≡ true → (eqb m.from a.from && eqb m.to a.to) ≡ false
not_level a m h = go (eqb m.from a.from) refl
  where
    p : Before a m
    p = before_is a m h

    go : (x : Bool) → eqb m.from a.from ≡ x → (x && eqb m.to a.to) ≡ false
    go true e = ne_eqb m.to a.to (λ z. omega (arith, p.in_row (sym (eqb-true _ _ e))))
    go false e = refl

rate_after : (a : Move) (ms : List Move) → Every (λ m. is_before a m ≡ true) ms → rate_in ms a.from a.to ≡ 0
unfolding rate_in Every
rate_after a [] h = refl
rate_after a (m ∷ ms) h = rw (not_level a m h.0, rate_after a ms h.1) refl

rate_first : (a : Move) (ms : List Move) → is_rising (a ∷ ms) ≡ true → rate_in (a ∷ ms) a.from a.to ≡ a.rate
unfolding rate_in
rate_first a ms h = rw (eq-eqb a.from a.from refl, eq-eqb a.to a.to refl) (omega (arith, rate_after a ms (first_before a ms h)))

abbrev SameRates : List Move → List Move → Type 0
SameRates l k = (s t : ℕ) → rate_in l s t ≡ rate_in k s t

same_move : (a b : Move) → a.from ≡ b.from → a.to ≡ b.to → a.rate ≡ b.rate → a ≡ b
same_move a b h i k = rw (h, i, k) refl

-- a list that rises has what another has only where it begins alike
not_earlier : (a b : Move) (l k : List Move) → is_rising (a ∷ l) ≡ true → is_rising (b ∷ k) ≡ true → 0 < a.rate
    → is_before a b ≡ true → rate_in (a ∷ l) a.from a.to ≡ rate_in (b ∷ k) a.from a.to → ⊥
unfolding Every
not_earlier a b l k h i o e r =
    let z : rate_in (b ∷ k) a.from a.to ≡ 0
    = rate_after a (b ∷ k) (e, every_weaker (λ m. is_before b m ≡ true) (λ m. is_before a m ≡ true) (λ m x. before_trans a b m e x) k (first_before b k i)) in
    absurd (omega (arith, rate_first a l h, z, r))

same_first : (a b : Move) (l k : List Move) → a.from ≡ b.from → a.to ≡ b.to → is_rising (a ∷ l) ≡ true → is_rising (b ∷ k) ≡ true
    → SameRates (a ∷ l) (b ∷ k) → (SameRates l k → l ≡ k) → ◌≡◌ {A = List Move} (a ∷ l) (b ∷ k)
unfolding rate_in
same_first a b l k e f h i r next =
    let z : a.rate ≡ b.rate = sym (rate_first a l h) ∙ r a.from a.to ∙ rw (e, f) (rate_first b k i) in
    let q : a ≡ b = same_move a b e f z in
    rw (q, next (λ s t. omega (arith, rw q at (r s t)))) refl

pub only_rising : (l k : List Move) → is_rising l ≡ true → is_rising k ≡ true → Moving l → Moving k → SameRates l k → l ≡ k
unfolding Moving rate_in
only_rising [] [] h i o p r = refl
only_rising [] (b ∷ k) h i o p r = absurd (omega (arith, rate_first b k i, r b.from b.to, p.0))
only_rising (a ∷ l) [] h i o p r = absurd (omega (arith, rate_first a l h, r a.from a.to, o.0))
only_rising (a ∷ l) (b ∷ k) h i o p r = go (order a b) (λ x. only_rising l k (later_rising a l h) (later_rising b k i) o.1 p.1 x)
  where
    go : Order a b → (SameRates l k → l ≡ k) → ◌≡◌ {A = List Move} (a ∷ l) (b ∷ k)
    go (earlier e) next = absurd (not_earlier a b l k h i o.0 e (r a.from a.to))
    go (later e) next = absurd (not_earlier b a k l i h p.0 e (sym (r b.from b.to)))
    go (level e f) next = same_first a b l k e f h i r next
