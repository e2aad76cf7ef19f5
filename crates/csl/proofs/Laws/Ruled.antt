-- The rule of a verdict: which one holds, what it says of the value, that it leaves no choice, and that the moves leave nothing undecided.
-- Assumes nothing.
use Rattle.std.specs.Prelude.{◌≡◌, refl, Bool, true, false, ◌⊎◌, ℕ, ◌<◌, eqb}
use Rattle.std.proofs.Common.{sym, ◌∙◌, inl, inr, arith, eqb-true}
use Rattle.std.proofs.lemmas.Bool.{false≢true, eqb-false}
use Rattle.csl.specs.Limits.{billion}
use Rattle.csl.specs.Formula.{Comparison, Less, AtMost, AtLeast, More}
use Rattle.csl.specs.Verdicts.{Verdict, No, Yes, Undecided, marked, negation, Decided}
use Rattle.csl.specs.Graph.{Tells, ByPossible, ByCertain, Ruled}
use Rattle.csl.specs.Laws.Decided.{Either}
use Rattle.csl.proofs.Laws.Judging.{Says}

-- which rule holds
pub data Which (decided : Type 0) (p : ℕ) : Type 0 where
  by_possible : decided → p ≡ 0 → Which decided p
  by_certain : decided → p ≡ billion → Which decided p
  by_interval : (decided → (p ≡ 0) ⊎ (p ≡ billion) → ⊥) → Which decided p

pub which : {decided : Type 0} → Either decided → (p : ℕ) → Which decided p
which (inr n) p = by_interval λ d e. n d
which {decided} (inl d) p = go (eqb p 0) (eqb p billion) refl refl
  where
    go : (a b : Bool) → eqb p 0 ≡ a → eqb p billion ≡ b → Which decided p
    go true b e f = by_possible d (eqb-true p 0 e)
    go false true e f = by_certain d (eqb-true p billion f)
    go false false e f = by_interval λ d h. other (eqb-false p 0 e) (eqb-false p billion f) h
      where
        other : (p ≡ 0 → ⊥) → (p ≡ billion → ⊥) → (p ≡ 0) ⊎ (p ≡ billion) → ⊥
        other n m (inl h) = n h
        other n m (inr h) = m h

-- a threshold between 0 and 1,000,000,000 is neither
pub between : (p : ℕ) → 0 < p → p < billion → (p ≡ 0) ⊎ (p ≡ billion) → ⊥
between p a b (inl h) = omega arith
between p a b (inr h) = omega arith

-- T p r is what comparison r with p says of a value
module _ (T : ℕ → Comparison → Type 0) (decided possible certain : Type 0) (low : T 0 AtLeast) (high : T billion AtMost)
    (some : decided → possible → T 0 More) (none : decided → (possible → ⊥) → T 0 AtMost)
    (full : decided → certain → T billion AtLeast) (part : decided → (certain → ⊥) → T billion Less) where
  possible_says : decided → (r : Comparison) (v : Verdict) → ByPossible r possible v → Says v r (T 0)
  unfolding Says
  possible_says d More Yes h = some d h
  possible_says d More No h = none d h
  possible_says d More Undecided h = absurd h
  possible_says d AtMost Yes h = none d h
  possible_says d AtMost No h = some d h
  possible_says d AtMost Undecided h = absurd h
  possible_says d AtLeast v h = rw h low
  possible_says d Less v h = rw h low

  certain_says : decided → (r : Comparison) (v : Verdict) → ByCertain r certain v → Says v r (T billion)
  unfolding Says
  certain_says d AtLeast Yes h = full d h
  certain_says d AtLeast No h = part d h
  certain_says d AtLeast Undecided h = absurd h
  certain_says d Less Yes h = part d h
  certain_says d Less No h = full d h
  certain_says d Less Undecided h = absurd h
  certain_says d AtMost v h = rw h high
  certain_says d More v h = rw h high

  pub ruled_says : (r : Comparison) (p : ℕ) (v : Verdict) {interval : Type 0} → Which decided p → Ruled decided r p possible certain v interval
      → (interval → Says v r (T p)) → Says v r (T p)
  ruled_says r p v (by_possible d e) k f = rw e (possible_says d r v (k.at_0 d e))
  ruled_says r p v (by_certain d e) k f = rw e (certain_says d r v (k.at_1 d e))
  ruled_says r p v (by_interval n) k f = f (k.elsewhere n)

-- what the interval rule says may be said otherwise
pub ruled_as : {decided possible certain interval other : Type 0} {r : Comparison} {p : ℕ} {v : Verdict} → (interval → other)
    → Ruled decided r p possible certain v interval → Ruled decided r p possible certain v other
ruled_as f k = record { at_0 = k.at_0; at_1 = k.at_1; elsewhere = λ n. f (k.elsewhere n) }

-- a verdict that tells is decided, and there is no other
tells_decided : (A : Type 0) (v : Verdict) → Tells v A → Decided v
tells_decided A No h = tt
tells_decided A Yes h = tt
tells_decided A Undecided h = h

-- a mark tells of itself
pub tells_itself : (b : Bool) → Tells (marked b) (b ≡ true)
tells_itself true = refl
tells_itself false = false≢true

pub tells_same : (A B : Type 0) (v : Verdict) → (A → B) → (B → A) → Tells v A → Tells v B
tells_same A B No f g h = λ b. h (g b)
tells_same A B Yes f g h = f h
tells_same A B Undecided f g h = h

pub tells_one : (A : Type 0) (v w : Verdict) → Tells v A → Tells w A → v ≡ w
tells_one A No No h k = refl
tells_one A No Yes h k = absurd (h k)
tells_one A No Undecided h k = absurd k
tells_one A Yes No h k = absurd (k h)
tells_one A Yes Yes h k = refl
tells_one A Yes Undecided h k = absurd k
tells_one A Undecided w h k = absurd h

negation_decided : (v : Verdict) → Decided (negation v) → Decided v
negation_decided No d = tt
negation_decided Yes d = tt
negation_decided Undecided d = d

negation_one : (v w : Verdict) → negation v ≡ negation w → v ≡ w
negation_one v w e = sym (twice v) ∙ again e ∙ twice w
  where
    twice : (x : Verdict) → negation (negation x) ≡ x
    twice No = refl
    twice Yes = refl
    twice Undecided = refl

    again : negation v ≡ negation w → negation (negation v) ≡ negation (negation w)
    again h = rw h refl

pub possible_decided : (A : Type 0) (r : Comparison) (v : Verdict) → ByPossible r A v → Decided v
possible_decided A More v h = tells_decided A v h
possible_decided A AtMost v h = negation_decided v (tells_decided A (negation v) h)
possible_decided A AtLeast v h = rw h tt
possible_decided A Less v h = rw h tt

pub certain_decided : (A : Type 0) (r : Comparison) (v : Verdict) → ByCertain r A v → Decided v
certain_decided A AtLeast v h = tells_decided A v h
certain_decided A Less v h = negation_decided v (tells_decided A (negation v) h)
certain_decided A AtMost v h = rw h tt
certain_decided A More v h = rw h tt

possible_one : (A : Type 0) (r : Comparison) (v w : Verdict) → ByPossible r A v → ByPossible r A w → v ≡ w
possible_one A More v w h k = tells_one A v w h k
possible_one A AtMost v w h k = negation_one v w (tells_one A (negation v) (negation w) h k)
possible_one A AtLeast v w h k = h ∙ sym k
possible_one A Less v w h k = h ∙ sym k

certain_one : (A : Type 0) (r : Comparison) (v w : Verdict) → ByCertain r A v → ByCertain r A w → v ≡ w
certain_one A AtLeast v w h k = tells_one A v w h k
certain_one A Less v w h k = negation_one v w (tells_one A (negation v) (negation w) h k)
certain_one A AtMost v w h k = h ∙ sym k
certain_one A More v w h k = h ∙ sym k

-- so the rule allows one verdict, where the interval does
pub ruled_one : {decided possible certain interval other : Type 0} {r : Comparison} {p : ℕ} (v w : Verdict) → Which decided p
    → (interval → other → v ≡ w) → Ruled decided r p possible certain v interval → Ruled decided r p possible certain w other → v ≡ w
ruled_one {possible = possible} {r = r} v w (by_possible d e) f h k = possible_one possible r v w (h.at_0 d e) (k.at_0 d e)
ruled_one {certain = certain} {r = r} v w (by_certain d e) f h k = certain_one certain r v w (h.at_1 d e) (k.at_1 d e)
ruled_one v w (by_interval n) f h k = f (h.elsewhere n) (k.elsewhere n)

-- and the moves leave nothing undecided
pub ruled_decided : {decided possible certain interval : Type 0} {r : Comparison} {p : ℕ} (v : Verdict) → decided → (p ≡ 0) ⊎ (p ≡ billion)
    → Ruled decided r p possible certain v interval → Decided v
ruled_decided {possible = possible} {r = r} v d (inl e) k = possible_decided possible r v (k.at_0 d e)
ruled_decided {certain = certain} {r = r} v d (inr e) k = certain_decided certain r v (k.at_1 d e)
