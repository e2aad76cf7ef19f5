-- Moves to the own state: what they add to a sum over the states, and that until does not look at them. Assumes nothing.
use Rattle.std.specs.Prelude.{◌≡◌, Bool}
use Rattle.std.proofs.Math.Path.{refl, ap}
use Rattle.std.proofs.Common.{◌∙◌}
use Rattle.std.proofs.Math.Bool.{true, false, cond}
use Prim.Native.Nat.{ℕ, zero, suc, ◌+◌, ◌*◌, ◌-◌, ◌≤◌, ◌<◌}
use native.Mathlib.Omega.{arith}
use Rattle.std.proofs.Math.Dec.{eqb}
use borrow.Author.Tests.{eqb-true, eqb-false, ne_eqb}
use Rattle.csl.specs.Fraction.{Fraction, times, sum_up}
use Rattle.csl.specs.Chain.{Chain, sum_to, greatest, away, exit_rate, top_rate, load, depth}
use Rattle.csl.specs.Phase.{Phase, bit, moved, divisor, step_top, step_value, weight, quotient}
use Rattle.csl.specs.Next.{next_exit_rate, entering_rate}
use Rattle.csl.specs.Until.{until_quotient}
use Rattle.csl.specs.Between.{between_quotient}
use Rattle.csl.proofs.Laws.Sum.{sum_cong, greatest_cong}

module _ (c : Chain) (v : ℕ → ℕ) (s : ℕ) where
  -- before the own state nothing differs
  sum_before : (n : ℕ) → n ≤ s → sum_to (λ t. c.rate s t * v t) n ≡ sum_to (λ t. away c s t * v t) n
  unfolding sum_to away
  sum_before zero h = refl
  sum_before (suc n) h = rw (sum_before n (omega arith), ne_eqb s n (λ e. absurd (omega arith))) refl

  -- rates times values: the own state's share beside that of the others
  pub sum_own : (n : ℕ) → s < n → sum_to (λ t. c.rate s t * v t) n ≡ sum_to (λ t. away c s t * v t) n + c.rate s s * v s
  unfolding sum_to away
  sum_own zero h = absurd (omega arith)
  sum_own (suc n) h = go (eqb s n) refl (sum_own n)
    where
      go : (b : Bool) → eqb s n ≡ b
          → (s < n → sum_to (λ t. c.rate s t * v t) n ≡ sum_to (λ t. cond (eqb s t) 0 (c.rate s t) * v t) n + c.rate s s * v s)
          → sum_to (λ t. c.rate s t * v t) n + c.rate s n * v n
          ≡ sum_to (λ t. cond (eqb s t) 0 (c.rate s t) * v t) n + cond b 0 (c.rate s n) * v n + c.rate s s * v s
      go true e k = let z : s ≡ n = eqb-true s n e in rw (← z) (omega (arith, sum_before s (omega arith)))
      go false e k = let z : s ≡ n → ⊥ = eqb-false s n e in omega (arith, k (omega arith))

into_bit : (b : Bool) (r : ℕ) → cond b r 0 ≡ r * bit b
into_bit true r = omega arith
into_bit false r = omega arith

module _ (c : Chain) (s : ℕ) (l : s < c.states) where
  -- the two exit rates
  pub exit_own : next_exit_rate c s ≡ exit_rate c s + c.rate s s
  unfolding next_exit_rate exit_rate
  exit_own =
      omega (
        arith,
        sum_own c (λ t. 1) s c.states l,
        sum_cong (c.rate s) (λ t. c.rate s t * 1) c.states (λ t m. omega arith),
        sum_cong (away c s) (λ t. away c s t * 1) c.states (λ t m. omega arith),
      )

  -- rates into states, those into other states apart
  pub entering_own : (x : ℕ → Bool) → entering_rate c x s ≡ sum_to (λ t. away c s t * bit (x t)) c.states + c.rate s s * bit (x s)
  unfolding entering_rate
  entering_own x =
      sum_cong (λ t. cond (x t) (c.rate s t) 0) (λ t. c.rate s t * bit (x t)) c.states (λ t m. into_bit (x t) (c.rate s t))
      ∙ sum_own c (λ t. bit (x t)) s c.states l

-- two chains of the same states that differ at most in the rates to the own state
pub record SameElsewhere (c d : Chain) : Type 0 where
  pub states : c.states ≡ d.states
  pub rates : (s t : ℕ) → (s ≡ t → ⊥) → c.rate s t ≡ d.rate s t

-- two phases that start from the same values and hold to the same
pub record SamePhase (ph ph' : Phase) : Type 0 where
  pub wholes : ph.whole ≡ ph'.whole
  pub starts : (s : ℕ) → ph.start s ≡ ph'.start s
  pub ones : (s : ℕ) → ph.one s ≡ ph'.one s
  pub nils : (s : ℕ) → ph.nil s ≡ ph'.nil s

fractions_same : (f g : ℕ → Fraction) (n : ℕ) → ((k : ℕ) → f k ≡ g k) → sum_up f n ≡ sum_up g n
unfolding sum_up
fractions_same f g zero h = h 0
fractions_same f g (suc n) h = rw (fractions_same f g n h, h (suc n)) refl

quotient_same : (l : Fraction) (v w : ℕ → Fraction) → ((k : ℕ) → v k ≡ w k) → (n : ℕ) → quotient l v n ≡ quotient l w n
unfolding quotient
quotient_same l v w h n =
    rw (fractions_same (λ k. times (weight l k) (v k)) (λ k. times (weight l k) (w k)) n (λ k. rw (h k) refl)) refl

module _ {c d : Chain} (e : SameElsewhere c d) where
  away_same : (s t : ℕ) → away c s t ≡ away d s t
  unfolding away
  away_same s t = go (eqb s t) refl
    where
      go : (b : Bool) → eqb s t ≡ b → cond b 0 (c.rate s t) ≡ cond b 0 (d.rate s t)
      go true h = refl
      go false h = e.rates s t (eqb-false s t h)

  pub exit_same : (s : ℕ) → exit_rate c s ≡ exit_rate d s
  unfolding exit_rate
  exit_same s = ap (λ (n : ℕ). sum_to (away c s) n) e.states ∙ sum_cong (away c s) (away d s) d.states (λ t l. away_same s t)

  pub top_same : top_rate c ≡ top_rate d
  unfolding top_rate
  top_same = ap (λ (n : ℕ). greatest (exit_rate c) n) e.states ∙ greatest_cong (exit_rate c) (exit_rate d) d.states (λ s l. exit_same s)

  moved_same : (v w : ℕ → ℕ) (s : ℕ) → ((t : ℕ) → v t ≡ w t) → moved c v s ≡ moved d w s
  unfolding moved
  moved_same v w s h =
      let i : sum_to (λ t. away c s t * v t) c.states ≡ sum_to (λ t. away d s t * w t) d.states
      = ap (λ (n : ℕ). sum_to (λ t. away c s t * v t) n) e.states
      ∙ sum_cong (λ t. away c s t * v t) (λ t. away d s t * w t) d.states (λ t l. rw (away_same s t, h t) refl) in
      rw (i, top_same, exit_same s, h s) refl

  divisor_same : (whole k : ℕ) → divisor c whole k ≡ divisor d whole k
  unfolding divisor
  divisor_same whole zero = refl
  divisor_same whole (suc k) = rw (divisor_same whole k, top_same) refl

  step_same : {ph ph' : Phase} → SamePhase ph ph' → (k s : ℕ) → step_top c ph k s ≡ step_top d ph' k s
  unfolding step_top
  step_same h zero s = h.starts s
  step_same {ph} {ph'} h (suc k) s =
      rw (
        top_same,
        step_same h k s,
        moved_same (step_top c ph k) (step_top d ph' k) s (step_same h k),
        h.ones s,
        h.nils s,
        h.wholes,
        divisor_same ph'.whole (suc k),
      ) refl

  value_same : {ph ph' : Phase} → SamePhase ph ph' → (s k : ℕ) → step_value c ph s k ≡ step_value d ph' s k
  value_same {ph} {ph'} h s k = rw (step_same h k s, h.wholes, divisor_same ph'.whole k) refl

  load_same : (t : ℕ) → load c t ≡ load d t
  unfolding load
  load_same t = rw top_same refl

  phase_quotient_same : (t : ℕ) {ph ph' : Phase} → SamePhase ph ph' → (s n : ℕ)
      → quotient (load c t) (step_value c ph s) n ≡ quotient (load d t) (step_value d ph' s) n
  phase_quotient_same t {ph} {ph'} h s n =
      rw (load_same t) (quotient_same (load d t) (step_value c ph s) (step_value d ph' s) (value_same h s) n)

  -- so until's depth and quotients are the same
  pub depth_same : (t : ℕ) → depth c t ≡ depth d t
  unfolding depth
  depth_same t = rw (load_same t) refl

  pub until_same_elsewhere : (t : ℕ) (x y : ℕ → Bool) (s n : ℕ) → until_quotient c t x y s n ≡ until_quotient d t x y s n
  until_same_elsewhere t x y s n =
      phase_quotient_same t (record { wholes = refl; starts = λ i. refl; ones = λ i. refl; nils = λ i. refl }) s n

  -- and those of until between two times
  pub between_same_elsewhere : (t u : ℕ) (x y : ℕ → Bool) (s m n : ℕ) → between_quotient c t u x y s m n ≡ between_quotient d t u x y s m n
  between_same_elsewhere t u x y s m n =
      let later : (i : ℕ) → until_quotient c (u - t) x y i n ≡ until_quotient d (u - t) x y i n = λ i. until_same_elsewhere (u - t) x y i n in
      phase_quotient_same t
      (record {
        wholes = ap (λ (z : Fraction). z.bottom) (later 0);
        starts = λ i. ap (λ (z : Fraction). cond (x i) z.top 0) (later i);
        ones = λ i. refl;
        nils = λ i. refl;
      }) s m
