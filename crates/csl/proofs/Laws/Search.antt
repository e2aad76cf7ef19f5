-- What leads along moves, found: marks that are sound and closed tell it, as a search leaves them; and so do as many rounds as there are
-- states, which a function can go through. Assumes nothing.
use Rattle.std.specs.Prelude.{◌≡◌, Bool, false, ◌&&◌, ◌||◌, ◌⊎◌}
use Rattle.std.proofs.Math.Path.{refl}
use Rattle.std.proofs.Common.{sym, ◌∙◌, true≢false}
use Rattle.std.proofs.Math.Bool.{true, and-eq-true_iff}
use Rattle.std.proofs.lemmas.Bool.{false≢true}
use Rattle.std.proofs.Math.Logic.{inl, inr, ⊎_elim}
use Prim.Native.Nat.{ℕ, zero, suc, ◌+◌, ◌-◌, ◌≤◌, ◌<◌}
use native.Mathlib.Omega.{arith}
use Rattle.std.proofs.Math.Nat.{le-suc_iff}
use Rattle.std.proofs.Math.Dec.{ltb}
use borrow.Author.Tests.{ltb-true, ltb-false, lt-ltb}
use Rattle.csl.specs.Chain.{Chain, sum_to}
use Rattle.csl.specs.Phase.{bit}
use Rattle.csl.specs.Verdicts.{marked}
use Rattle.csl.specs.Graph.{Leads, arrived, moves, Tells}
use Rattle.csl.proofs.Laws.Sum.{sum_less}
use Rattle.csl.proofs.Laws.Quotient.{bit_le, bit_rises}
use Rattle.csl.specs.Laws.Search.{SomeBelow, any_below, grown, leads_in}

or_true : (a b : Bool) → (a || b) ≡ true → (a ≡ true) ⊎ (b ≡ true)
or_true true b h = inl refl
or_true false b h = inr h

or_left : (a b : Bool) → a ≡ true → (a || b) ≡ true
or_left a b h = rw h refl

or_right : (a b : Bool) → b ≡ true → (a || b) ≡ true
or_right true b h = refl
or_right false b h = h

any_found : (p : ℕ → Bool) (n : ℕ) → any_below p n ≡ true → SomeBelow p n
unfolding any_below
any_found p zero h = absurd (false≢true h)
any_found p (suc n) h =
    ⊎_elim (λ k. let b : SomeBelow p n = any_found p n k in record { place = b.place; under = omega (arith, b.under); holds = b.holds })
    (λ k. record { place = n; under = omega arith; holds = k }) (or_true (any_below p n) (p n) h)

any_is : (p : ℕ → Bool) (n i : ℕ) → i < n → p i ≡ true → any_below p n ≡ true
unfolding any_below
any_is p zero i l h = absurd (omega arith)
any_is p (suc n) i l h =
    ⊎_elim (λ m. or_left (any_below p n) (p n) (any_is p n i m h))
    (λ (e : suc i ≡ suc n). let q : i ≡ n = omega arith in or_right (any_below p n) (p n) (rw q at h)) (le-suc_iff.0 l)

module _ (c : Chain) (x y : ℕ → Bool) where
  -- marks p that are sound, hold at each state of the second operand, and wherever a state of the first moves into them
  module _ (p : ℕ → Bool) (sound : (s : ℕ) → s < c.states → p s ≡ true → Leads c x y s)
      (second : (s : ℕ) → s < c.states → y s ≡ true → p s ≡ true)
      (closed : (s t : ℕ) → s < c.states → t < c.states → x s ≡ true → 0 < c.rate s t → p t ≡ true → p s ≡ true) where
    found_all : (s : ℕ) → s < c.states → Leads c x y s → p s ≡ true
    found_all _ l (arrived s e) = second s l e
    found_all _ l (moves s t e m h k) = closed s t l m e h (found_all t m k)

    pub search_tells : (s : ℕ) → s < c.states → Tells (marked (p s)) (Leads c x y s)
    search_tells s l = go (p s) refl
      where
        go : (b : Bool) → p s ≡ b → Tells (marked b) (Leads c x y s)
        go true e = sound s l e
        go false e = λ k. true≢false (sym (found_all s l k) ∙ e)

  -- a move into p
  record Steps (p : ℕ → Bool) (s : ℕ) : Type 0 where
    pub first : x s ≡ true
    pub target : ℕ
    pub in_range : target < c.states
    pub move : 0 < c.rate s target
    pub enters : p target ≡ true

  grown_by : (p : ℕ → Bool) (s : ℕ) → grown c x y p s ≡ true → (y s ≡ true) ⊎ Steps p s
  unfolding grown
  grown_by p s h = ⊎_elim inl (λ k. inr (steps k)) (or_true (y s) _ h)
    where
      steps : (x s && any_below (λ t. ltb 0 (c.rate s t) && p t) c.states) ≡ true → Steps p s
      steps k =
          let a = (and-eq-true_iff (x s) (any_below (λ t. ltb 0 (c.rate s t) && p t) c.states)).0 k in
          let b : SomeBelow (λ t. ltb 0 (c.rate s t) && p t) c.states = any_found (λ t. ltb 0 (c.rate s t) && p t) c.states a.1 in
          let d = (and-eq-true_iff (ltb 0 (c.rate s b.place)) (p b.place)).0 b.holds in
          record { first = a.0; target = b.place; in_range = b.under; move = ltb-true 0 _ d.0; enters = d.1 }

  grown_second : (p : ℕ → Bool) (s : ℕ) → y s ≡ true → grown c x y p s ≡ true
  unfolding grown
  grown_second p s h = or_left (y s) _ h

  grown_step : (p : ℕ → Bool) (s : ℕ) → Steps p s → grown c x y p s ≡ true
  unfolding grown
  grown_step p s k =
      or_right (y s) _
      ((and-eq-true_iff (x s) (any_below (λ t. ltb 0 (c.rate s t) && p t) c.states)).1 (
        k.first,
        any_is (λ t. ltb 0 (c.rate s t) && p t) c.states k.target k.in_range
            ((and-eq-true_iff (ltb 0 (c.rate s k.target)) (p k.target)).1 (lt-ltb 0 _ k.move, k.enters)),
      ))

  -- the rounds are sound
  rounds_sound : (k s : ℕ) → leads_in c x y k s ≡ true → Leads c x y s
  unfolding leads_in
  rounds_sound zero s h = arrived s h
  rounds_sound (suc k) s h =
      ⊎_elim (λ e. arrived s e) (λ j. moves s j.target j.first j.in_range j.move (rounds_sound k j.target j.enters))
      (grown_by (leads_in c x y k) s h)

  -- they grow
  abbrev Within : ℕ → ℕ → Type 0
  Within j k = (s : ℕ) → s < c.states → leads_in c x y j s ≡ true → leads_in c x y k s ≡ true

  grown_rises : (j k : ℕ) → Within j k → Within (suc j) (suc k)
  unfolding leads_in
  grown_rises j k h s l e =
      ⊎_elim (λ d. grown_second (leads_in c x y k) s d)
      (λ d. grown_step (leads_in c x y k) s
      (record { first = d.first; target = d.target; in_range = d.in_range; move = d.move; enters = h d.target d.in_range d.enters }))
      (grown_by (leads_in c x y j) s e)

  one_more : (k : ℕ) → Within k (suc k)
  unfolding leads_in
  one_more zero s l e = grown_second y s e
  one_more (suc k) s l e = grown_rises k (suc k) (one_more k) s l e

  more : (j i : ℕ) → Within j (j + i)
  more j zero s l e = let q : j + 0 ≡ j = omega arith in rw q e
  more j (suc i) s l e = let q : j + suc i ≡ suc (j + i) = omega arith in rw q (one_more (j + i) s l (more j i s l e))

  -- once a round adds nothing no later one does
  stays : (j : ℕ) → Within (suc j) j → (k : ℕ) → Within k j
  unfolding leads_in
  stays j h zero s l e = let q : 0 + j ≡ j = omega arith in rw q at (more 0 j s l e)
  stays j h (suc k) s l e = h s l (grown_rises k j (stays j h k) s l e)

  -- so many states are found in k rounds
  abbrev count : ℕ → ℕ
  count k = sum_to (λ s. bit (leads_in c x y k s)) c.states

  -- each round finds one more or changes nothing
  grows_or_stays : (k : ℕ) → (count k < count (suc k)) ⊎ Within (suc k) k
  grows_or_stays k = go (ltb (count k) (count (suc k))) refl
    where
      no_new : count (suc k) ≤ count k → (s : ℕ) → s < c.states → leads_in c x y (suc k) s ≡ true → (b : Bool) → leads_in c x y k s ≡ b → b ≡ true
      no_new h s l e true f = refl
      no_new h s l e false f =
          let d : bit (leads_in c x y k s) < bit (leads_in c x y (suc k) s) = rw (e, f) (omega arith) in
          absurd (omega (
            arith,
            h,
            sum_less (λ t. bit (leads_in c x y k t)) (λ t. bit (leads_in c x y (suc k) t)) s c.states l
                (λ t m. bit_rises (leads_in c x y k t) (leads_in c x y (suc k) t) (one_more k t m)) d,
          ))

      go : (b : Bool) → ltb (count k) (count (suc k)) ≡ b → (count k < count (suc k)) ⊎ Within (suc k) k
      go true e = inl (ltb-true _ _ e)
      go false e = inr λ s l h. no_new (ltb-false _ _ e) s l h (leads_in c x y k s) refl

  record Stable (k : ℕ) : Type 0 where
    pub round : ℕ
    pub early : round ≤ k
    pub stable : Within (suc round) round

  filled_or_stable : (k : ℕ) → (k ≤ count k) ⊎ Stable k
  filled_or_stable zero = inl (omega arith)
  filled_or_stable (suc k) =
      ⊎_elim
      (λ (h : k ≤ count k). ⊎_elim (λ (g : count k < count (suc k)). inl (omega arith))
      (λ g. inr (record { round = k; early = omega arith; stable = g })) (grows_or_stays k))
      (λ h. inr (record { round = h.round; early = omega (arith, h.early); stable = h.stable })) (filled_or_stable k)

  ones : (n : ℕ) → sum_to (λ s. 1) n ≡ n
  unfolding sum_to
  ones zero = refl
  ones (suc n) = omega (arith, ones n)

  -- as many rounds as there are states find all
  rounds_closed : Within (suc c.states) c.states
  rounds_closed =
      ⊎_elim full (λ (h : Stable c.states) s l e. let q : h.round + (c.states - h.round) ≡ c.states = omega (arith, h.early) in
      rw q at (more h.round (c.states - h.round) s l (stays h.round h.stable (suc c.states) s l e)))
      (filled_or_stable c.states)
    where
      all : c.states ≤ count c.states → (s : ℕ) → s < c.states → (b : Bool) → leads_in c x y c.states s ≡ b → b ≡ true
      all h s l true e = refl
      all h s l false e =
          let d : bit (leads_in c x y c.states s) < 1 = rw e (omega arith) in
          absurd (omega (
            arith,
            h,
            ones c.states,
            sum_less (λ t. bit (leads_in c x y c.states t)) (λ t. 1) s c.states l
                (λ t m. bit_le (leads_in c x y c.states t)) d,
          ))

      full : c.states ≤ count c.states → Within (suc c.states) c.states
      full h s l e = all h s l (leads_in c x y c.states s) refl

  as_round : (k s : ℕ) → grown c x y (leads_in c x y k) s ≡ true → leads_in c x y (suc k) s ≡ true
  unfolding leads_in
  as_round k s h = h

  round_second : (s : ℕ) → s < c.states → y s ≡ true → leads_in c x y c.states s ≡ true
  unfolding leads_in
  round_second s l e = let q : 0 + c.states ≡ c.states = omega arith in rw q at (more 0 c.states s l e)

  pub leads_told : (s : ℕ) → s < c.states → Tells (marked (leads_in c x y c.states s)) (Leads c x y s)
  leads_told s l =
      search_tells (leads_in c x y c.states) (λ i j h. rounds_sound c.states i h) round_second
      (λ i t j m e r h. rounds_closed i j (as_round c.states i
      (grown_step (leads_in c x y c.states) i (record { first = e; target = t; in_range = m; move = r; enters = h }))))
      s l
