-- What the moves say of a path is what its probability is: possible is more than 0, and certain is 1. Assumes nothing.
use Rattle.std.proofs.Math.Path.{◌≡◌, refl}
use Rattle.std.proofs.Common.{sym, ap, ◌∙◌, arith, mul-le-mul_right, ltb-true, ltb-false, ne_eqb}
use Rattle.std.specs.Prelude.{Bool, ℕ, zero, suc, ◌*◌, ◌≤◌, ◌<◌, eqb, ltb}
use Rattle.std.proofs.Math.Bool.{true, false, cond}
use Rattle.std.proofs.Math.Logic.{⊎_elim}
use Rattle.std.proofs.lemmas.Bool.{eqb-false}
use Rattle.csl.specs.Formula.{Less, AtMost, AtLeast, More}
use Rattle.csl.specs.Fraction.{Fraction, frac, Same}
use Rattle.csl.specs.Chain.{Chain, sum_to, top_rate, load}
use Rattle.csl.specs.Phase.{bit, step_value}
use Rattle.csl.specs.Limit.{FromSome, LimitIs}
use Rattle.csl.specs.Graph.{Leads, arrived, moves, UntilPossible, Enters, EntersOnly}
use Rattle.csl.specs.Until.{until_phase, until_quotient}
use Rattle.csl.specs.Next.{next_exit_rate, entering_rate, next_fraction}
use Rattle.csl.proofs.Laws.Sum.{sum_term, sum_none, sum_cong, sum_less}
use Rattle.csl.proofs.Laws.Quotient.{until_le}
use Rattle.csl.proofs.Laws.Next.{into_le}
use Rattle.csl.proofs.Laws.Point.{quotient_nil}
use Rattle.csl.proofs.Laws.PointQuotients.{until_one, until_still}
use Rattle.csl.proofs.Laws.Led.{leads_reached, unled_none, not-true, none_or_some}
use Rattle.csl.proofs.Laws.Parted.{reached_parted, second_parted, more_than_0, less_than_1}

-- limits of quotients from 0 to 1, of 0 and of 1
pub limit_low : (x : ℕ → Fraction) → LimitIs AtLeast 0 (FromSome x)
limit_low x m one = record { begin = 0; all = λ n l. omega arith }

pub limit_high : (x : ℕ → Fraction) → ((n : ℕ) → (x n).top ≤ (x n).bottom) → LimitIs AtMost 1000000000 (FromSome x)
limit_high x h m one = record { begin = 0; all = λ n l. omega (arith, mul-le-mul_right (1000000000 * m) (h n)) }

limit_none : (x : ℕ → Fraction) → ((n : ℕ) → (x n).top ≡ 0) → LimitIs AtMost 0 (FromSome x)
limit_none x h m one = record { begin = 0; all = λ n l. omega (arith, ap (λ (y : ℕ). y * (1000000000 * m)) (h n)) }

limit_full : (x : ℕ → Fraction) → ((n : ℕ) → (x n).top ≡ (x n).bottom) → LimitIs AtLeast 1000000000 (FromSome x)
limit_full x h m one = record { begin = 0; all = λ n l. omega (arith, ap (λ (y : ℕ). y * m) (h n)) }

-- until
module _ (c : Chain) (x y : ℕ → Bool) (s : ℕ) (l : s < c.states) where
  pub impossible_quotients : (t : ℕ) → (UntilPossible c t x y s → ⊥) → (n : ℕ) → (until_quotient c t x y s n).top ≡ 0
  impossible_quotients zero h n =
      let e : y s ≡ false = not-true (y s) h in
      let z : top_rate c * 0 ≡ 0 = omega arith in
      let k : Same (until_quotient c 0 x y s n) (frac (bit (y s)) 1) = until_still c 0 x y s z n in
      let j : Same (until_quotient c 0 x y s n) (frac 0 1) = rw e at k in
      omega arith
  impossible_quotients (suc t) h n = quotient_nil (load c (suc t)) (step_value c (until_phase x y) s) (λ k. unled_none c x y k s l h) n

  pub until_some : (t : ℕ) → UntilPossible c t x y s → LimitIs More 0 (FromSome (until_quotient c t x y s))
  until_some zero h = more_than_0 _ (second_parted c 0 x y s h)
  until_some (suc t) h = more_than_0 _ (reached_parted c (suc t) x y s (omega arith) (leads_reached c x y s l h))

  pub until_none : (t : ℕ) → (UntilPossible c t x y s → ⊥) → LimitIs AtMost 0 (FromSome (until_quotient c t x y s))
  until_none t h = limit_none _ (impossible_quotients t h)

  pub until_full : (t : ℕ) → y s ≡ true → LimitIs AtLeast 1000000000 (FromSome (until_quotient c t x y s))
  until_full t h = limit_full _ (until_one c t x y s l h)

  pub until_part : (t : ℕ) → (y s ≡ true → ⊥) → LimitIs Less 1000000000 (FromSome (until_quotient c t x y s))
  until_part t h = less_than_1 c t x y s l (not-true (y s) h)

  pub until_within : (t : ℕ) → LimitIs AtMost 1000000000 (FromSome (until_quotient c t x y s))
  until_within t = limit_high _ (λ n. until_le c t x y s n l)

-- next
module _ (c : Chain) (x : ℕ → Bool) (s : ℕ) where
  abbrev into : ℕ → ℕ
  into t = cond (x t) (c.rate s t) 0

  pub exit_some : {y : ℕ → Bool} → Enters c y s → 0 < next_exit_rate c s
  unfolding next_exit_rate
  exit_some h = omega (arith, h.move, sum_term (c.rate s) h.target c.states h.in_range)

  pub entering_some : Enters c x s → 0 < entering_rate c x s
  unfolding entering_rate
  entering_some h =
      let e : into h.target ≡ c.rate s h.target = rw h.holds refl in
      omega (arith, h.move, e, sum_term into h.target c.states h.in_range)

  moving_fraction : 0 < next_exit_rate c s → next_fraction c x s ≡ frac (entering_rate c x s) (next_exit_rate c s)
  unfolding next_fraction
  moving_fraction h = rw (ne_eqb (next_exit_rate c s) 0 (λ z. omega arith)) refl

  pub next_some : Enters c x s → 0 < (next_fraction c x s).top
  next_some h = rw (moving_fraction (exit_some h)) (entering_some h)

  entering_none : (Enters c x s → ⊥) → entering_rate c x s ≡ 0
  unfolding entering_rate
  entering_none h = sum_none into c.states λ t m. term t m (x t) refl
    where
      term : (t : ℕ) → t < c.states → (b : Bool) → x t ≡ b → cond b (c.rate s t) 0 ≡ 0
      term t m true e = ⊎_elim (λ z. z) (λ z. absurd (h (record { target = t; in_range = m; move = z; holds = e }))) (none_or_some (c.rate s t))
      term t m false e = refl

  pub next_none : (Enters c x s → ⊥) → (next_fraction c x s).top ≡ 0
  unfolding next_fraction
  next_none h = go (eqb (next_exit_rate c s) 0)
    where
      go : (b : Bool) → (cond b (frac 0 1) (frac (entering_rate c x s) (next_exit_rate c s))).top ≡ 0
      go true = refl
      go false = entering_none h

  entering_all : EntersOnly c x s → entering_rate c x s ≡ next_exit_rate c s
  unfolding entering_rate next_exit_rate
  entering_all h =
      sum_cong into (c.rate s) c.states λ t m. ⊎_elim (λ z. rw z (idle (x t))) (λ z. rw (h.all t m z) refl) (none_or_some (c.rate s t))
    where
      idle : (b : Bool) → ◌≡◌ {A = ℕ} (cond b 0 0) 0
      idle true = refl
      idle false = refl

  pub next_full : EntersOnly c x s → (next_fraction c x s).top ≡ (next_fraction c x s).bottom
  next_full h = rw (moving_fraction (exit_some h.some_move)) (entering_all h)

  -- rates that enter states of the operand are those of moves
  entered : 0 < entering_rate c x s → Enters c x s
  unfolding entering_rate sum_to
  entered q = go c.states (omega arith) q
    where
      at_one : (n : ℕ) → n < c.states → (b : Bool) → x n ≡ b → 0 < cond b (c.rate s n) 0 → Enters c x s
      at_one n m true e z = record { target = n; in_range = m; move = z; holds = e }
      at_one n m false e z = absurd (omega arith)

      go : (n : ℕ) → n ≤ c.states → 0 < sum_to into n → Enters c x s
      go zero m h = absurd (omega arith)
      go (suc n) m h = ⊎_elim (λ z. go n (omega arith) (omega (arith, z, h))) (λ z. at_one n m (x n) refl z) (none_or_some (into n))

  pub next_entered : 0 < (next_fraction c x s).top → Enters c x s
  unfolding next_fraction
  next_entered h = go (eqb (next_exit_rate c s) 0) h
    where
      go : (b : Bool) → 0 < (cond b (frac 0 1) (frac (entering_rate c x s) (next_exit_rate c s))).top → Enters c x s
      go true z = absurd (omega arith)
      go false z = entered z

module _ (c : Chain) (x : ℕ → Bool) (s : ℕ) where
  -- a rate that is left out makes the sum less
  left_out : (t : ℕ) → t < c.states → 0 < c.rate s t → x t ≡ false → entering_rate c x s < next_exit_rate c s
  unfolding entering_rate next_exit_rate
  left_out t m z e =
      let d : cond (x t) (c.rate s t) 0 < c.rate s t = rw e z in
      sum_less (λ j. cond (x j) (c.rate s j) 0) (c.rate s) t c.states m (λ j i. into_le (x j) (c.rate s j)) d

  only_entered : next_exit_rate c s ≤ entering_rate c x s → (t : ℕ) → t < c.states → 0 < c.rate s t → (b : Bool) → x t ≡ b → b ≡ true
  only_entered k t m z true e = refl
  only_entered k t m z false e = absurd (omega (arith, k, left_out t m z e))

  pub next_all : (next_fraction c x s).bottom ≤ (next_fraction c x s).top → EntersOnly c x s
  unfolding next_fraction entering_rate next_exit_rate
  next_all h = go (eqb (next_exit_rate c s) 0) refl h
    where
      some : 0 < next_exit_rate c s → Enters c (λ t. true) s
      some q = entered c (λ t. true) s q

      go : (b : Bool) → eqb (next_exit_rate c s) 0 ≡ b
          → (cond b (frac 0 1) (frac (entering_rate c x s) (next_exit_rate c s))).bottom ≤ (cond b (frac 0 1) (frac (entering_rate c x s) (next_exit_rate c s))).top
          → EntersOnly c x s
      go true e k = absurd (omega arith)
      go false e k =
          let n : next_exit_rate c s ≡ 0 → ⊥ = eqb-false _ _ e in
          record { some_move = some (omega arith); all = λ t m z. only_entered k t m z (x t) refl }

  pub next_part : (EntersOnly c x s → ⊥) → (next_fraction c x s).top < (next_fraction c x s).bottom
  next_part h = go (ltb (next_fraction c x s).top (next_fraction c x s).bottom) refl
    where
      go : (b : Bool) → ltb (next_fraction c x s).top (next_fraction c x s).bottom ≡ b → (next_fraction c x s).top < (next_fraction c x s).bottom
      go true e = ltb-true _ _ e
      go false e = absurd (h (next_all (ltb-false _ _ e)))

-- operands that hold at the same states: what is possible and certain for the one is so for the other
abbrev pub SameOn : Chain → (x y : ℕ → Bool) → Type 0
SameOn c x y = (s : ℕ) → s < c.states → x s ≡ y s

pub same_back : (c : Chain) (x y : ℕ → Bool) → SameOn c x y → SameOn c y x
same_back c x y h s l = sym (h s l)

leads_same : (c : Chain) (x y x' y' : ℕ → Bool) → SameOn c x x' → SameOn c y y' → (s : ℕ) → s < c.states → Leads c x y s → Leads c x' y' s
leads_same c x y x' y' h k _ l (arrived s e) = arrived s (sym (k s l) ∙ e)
leads_same c x y x' y' h k _ l (moves s t e m z j) = moves s t (sym (h s l) ∙ e) m z (leads_same c x y x' y' h k t m j)

pub possible_same : (c : Chain) (x y x' y' : ℕ → Bool) → SameOn c x x' → SameOn c y y' → (t s : ℕ) → s < c.states
    → UntilPossible c t x y s → UntilPossible c t x' y' s
possible_same c x y x' y' h k zero s l j = sym (k s l) ∙ j
possible_same c x y x' y' h k (suc t) s l j = leads_same c x y x' y' h k s l j

pub enters_same : (c : Chain) (x x' : ℕ → Bool) → SameOn c x x' → (s : ℕ) → Enters c x s → Enters c x' s
enters_same c x x' h s j =
    record { target = j.target; in_range = j.in_range; move = j.move; holds = sym (h j.target j.in_range) ∙ j.holds }

pub only_same : (c : Chain) (x x' : ℕ → Bool) → SameOn c x x' → (s : ℕ) → EntersOnly c x s → EntersOnly c x' s
only_same c x x' h s j = record { some_move = j.some_move; all = λ t m z. sym (h t m) ∙ j.all t m z }
