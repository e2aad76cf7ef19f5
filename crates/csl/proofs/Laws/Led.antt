-- The step values of an until at a state that leads along moves to one of the second operand, and at one that does not. Assumes nothing.
use Rattle.std.specs.Prelude.{◌≡◌, refl, Bool, true, false, cond, not, ◌||◌, ◌⊎◌, ℕ, zero, suc, ◌*◌, ◌≤◌, ◌<◌, eqb}
use Rattle.std.proofs.Common.{inl, inr, ⊎_elim, arith, mul-pos, eqb-true, ne_eqb}
use Rattle.csl.specs.Chain.{Chain, sum_to, away, exit_rate, top_rate}
use Rattle.csl.specs.Phase.{moved, stepped, step_top}
use Rattle.csl.specs.Until.{until_phase}
use Rattle.csl.specs.Graph.{Leads, arrived, moves}
use Rattle.csl.proofs.Laws.Sum.{sum_term, sum_none}
use Rattle.csl.proofs.Laws.Steps.{exit_le, divisor_some}

-- a step at which the value is above 0: step 0, or any where something moves
pub record Reached (c : Chain) (x y : ℕ → Bool) (s : ℕ) : Type 0 where
  pub step : ℕ
  pub some : 0 < step_top c (until_phase x y) step s
  pub moving : (step ≡ 0) ⊎ (0 < top_rate c)

step_first : (one : Bool) (before u sum : ℕ) → 0 < u → 0 < sum → 0 < stepped false one (not (true || one)) before u sum
step_first true before u sum h k = h
step_first false before u sum h k = k

away_le : (c : Chain) (s t : ℕ) → s < c.states → t < c.states → away c s t ≤ top_rate c
unfolding exit_rate
away_le c s t l m = let e : exit_rate c s ≤ top_rate c = exit_le c s l in omega (arith, sum_term (away c s) t c.states m)

reached_by : (c : Chain) (x y : ℕ → Bool) (s t : ℕ) → s < c.states → t < c.states → x s ≡ true → eqb s t ≡ false → 0 < c.rate s t
    → Reached c x y t → Reached c x y s
unfolding step_top moved away
reached_by c x y s t l m e d h k =
    let f : ℕ → ℕ = λ u. away c s u * step_top c (until_phase x y) k.step u in
    let a : away c s t ≡ c.rate s t = rw d refl in
    let q : 0 < top_rate c = omega (arith, away_le c s t l m) in
    let b : 0 < f t = mul-pos (rw a h) k.some in
    let still : eqb (top_rate c) 0 ≡ false = ne_eqb (top_rate c) 0 (λ z. omega arith) in
    record {
      step = suc k.step;
      some = rw (still, e)
          (step_first (y s) (step_top c (until_phase x y) k.step s) _ _ (divisor_some c 1 (omega arith) (suc k.step))
          (omega (arith, sum_term f t c.states m)));
      moving = inr q;
    }

-- a state that leads has such a step; a move to the own state passes it on
pub leads_reached : (c : Chain) (x y : ℕ → Bool) (s : ℕ) → s < c.states → Leads c x y s → Reached c x y s
unfolding step_top
leads_reached c x y _ l (arrived s e) = record { step = 0; some = rw e (omega arith); moving = inl refl }
leads_reached c x y _ l (moves s t e m h k) = go (eqb s t) refl (leads_reached c x y t m k)
  where
    go : (b : Bool) → eqb s t ≡ b → Reached c x y t → Reached c x y s
    go true d r = rw (eqb-true s t d) r
    go false d r = reached_by c x y s t l m e d h r

-- one that does not has 0 at every step
pub not-true : (b : Bool) → (b ≡ true → ⊥) → b ≡ false
not-true true h = absurd (h refl)
not-true false h = refl

pub none_or_some : (r : ℕ) → (r ≡ 0) ⊎ (0 < r)
none_or_some zero = inl refl
none_or_some (suc r) = inr (omega arith)

away_none : (c : Chain) (s t : ℕ) → c.rate s t ≡ 0 → away c s t ≡ 0
unfolding away
away_none c s t e = go (eqb s t)
  where
    go : (b : Bool) → cond b 0 (c.rate s t) ≡ 0
    go true = refl
    go false = e

step_none : (still first : Bool) (before u sum : ℕ) → before ≡ 0 → (first ≡ true → sum ≡ 0)
    → stepped still false (not (first || false)) before u sum ≡ 0
step_none true first before u sum h k = h
step_none false true before u sum h k = k refl
step_none false false before u sum h k = refl

pub unled_none : (c : Chain) (x y : ℕ → Bool) (k s : ℕ) → s < c.states → (Leads c x y s → ⊥) → step_top c (until_phase x y) k s ≡ 0
unfolding step_top moved
unled_none c x y zero s l n = rw (not-true (y s) (λ e. n (arrived s e)))
unled_none c x y (suc k) s l n =
    let before : step_top c (until_phase x y) k s ≡ 0 = unled_none c x y k s l n in
    let terms : x s ≡ true → sum_to (λ t. away c s t * step_top c (until_phase x y) k t) c.states ≡ 0
    = λ e. sum_none _ c.states λ t m. term e t (λ z. unled_none c x y k t m (λ j. n (moves s t e m z j))) in
    rw (not-true (y s) (λ e. n (arrived s e)))
    (step_none (eqb (top_rate c) 0) (x s) _ _ _ before λ e. rw (before, terms e) (omega arith))
  where
    term : x s ≡ true → (t : ℕ) → (0 < c.rate s t → step_top c (until_phase x y) k t ≡ 0) → away c s t * step_top c (until_phase x y) k t ≡ 0
    term e t f = ⊎_elim (λ z. rw (away_none c s t z) (omega arith)) (λ z. rw (f z) (omega arith)) (none_or_some (c.rate s t))
