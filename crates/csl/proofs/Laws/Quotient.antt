-- Quotients: they are fractions, lie from 0 to 1, and rise with the values and with the reading. Assumes nothing.
use Rattle.std.specs.Prelude.{◌≡◌, refl, Bool, true, false, not, ◌||◌, ℕ, zero, suc, ◌≤◌, ◌<◌}
use Rattle.std.proofs.Common.{sym, ◌∙◌, true≢false, arith, mul-pos}
use Rattle.csl.specs.Fraction.{Fraction, IsFraction, times, sum_up}
use Rattle.csl.specs.Chain.{Chain, load}
use Rattle.csl.specs.Phase.{bit, step_value, weight, quotient}
use Rattle.csl.specs.Verdicts.{Verdict, No, Yes, Undecided, Agrees, Reading, as_no, as_yes, least, most}
use Rattle.csl.specs.Until.{until_phase, until_quotient, low_quotient, high_quotient}
use Rattle.csl.proofs.Laws.Fraction.{Under, under_sum, under_times, under_over, below_sum, times_below, sum_is, sum_some}
use Rattle.csl.specs.Laws.Steps.{Starts, PhaseUnder}
use Rattle.csl.proofs.Laws.Steps.{step_le, step_rises, divisor_some}

pub weight_is : (l : Fraction) → IsFraction l → (k : ℕ) → IsFraction (weight l k)
unfolding weight
weight_is l p zero = omega arith
weight_is l p (suc k) = mul-pos (mul-pos (weight_is l p k) p) (omega arith)

weight_some : (l : Fraction) → 0 < (weight l 0).top
unfolding weight
weight_some l = omega arith

-- the sum of the weights is above 0
pub weights_some : (c : Chain) (t n : ℕ) → 0 < (sum_up (weight (load c t)) n).top
unfolding load
weights_some c t n = sum_some (weight (load c t)) (weight_is (load c t) (omega arith)) (weight_some (load c t)) n

pub quotient_is : (l : Fraction) (v : ℕ → Fraction) → IsFraction l → ((k : ℕ) → IsFraction (v k)) → (n : ℕ) → IsFraction (quotient l v n)
unfolding quotient
quotient_is l v p h n =
    mul-pos (sum_is (λ k. times (weight l k) (v k)) (λ k. mul-pos (weight_is l p k) (h k)) n)
    (sum_some (weight l) (weight_is l p) (weight_some l) n)

-- values from 0 to 1 have quotients from 0 to 1
pub quotient_le : (l : Fraction) (v : ℕ → Fraction) → ((k : ℕ) → (v k).top ≤ (v k).bottom) → (n : ℕ) → (quotient l v n).top ≤ (quotient l v n).bottom
unfolding quotient
quotient_le l v h n =
    omega (arith, below_sum (λ k. times (weight l k) (v k)) (weight l) (λ k. times_below (weight l k) (v k) (h k)) n)

-- quotients rise with the values
pub quotient_rises : (l : Fraction) (v w : ℕ → Fraction) → ((k : ℕ) → Under (v k) (w k)) → (n : ℕ) → Under (quotient l v n) (quotient l w n)
unfolding quotient
quotient_rises l v w h n =
    under_over _ _ (sum_up (weight l) n)
    (under_sum (λ k. times (weight l k) (v k)) (λ k. times (weight l k) (w k)) (λ k. under_times (weight l k) (v k) (w k) (h k)) n)

-- where one operand is read as yes, another reading has yes too
abbrev pub Implies : ℕ → (ℕ → Bool) → (ℕ → Bool) → Type 0
Implies n a b = (s : ℕ) → s < n → a s ≡ true → b s ≡ true

pub bit_le : (a : Bool) → bit a ≤ 1
bit_le true = omega arith
bit_le false = omega arith

pub bit_rises : (a b : Bool) → (a ≡ true → b ≡ true) → bit a ≤ bit b
bit_rises true b h = rw (h refl) (omega arith)
bit_rises false b h = omega arith

neither_falls : (a b a' b' : Bool) → (a ≡ true → a' ≡ true) → (b ≡ true → b' ≡ true) → not (a' || b') ≡ true → not (a || b) ≡ true
neither_falls true b a' b' h k e = rw (h refl) at e
neither_falls false true true b' h k e = e
neither_falls false true false b' h k e = rw (k refl) at e
neither_falls false false a' b' h k e = refl

pub until_starts : (c : Chain) (a b : ℕ → Bool) → Starts c (until_phase a b)
until_starts c a b s l = bit_le (b s)

pub until_under : (c : Chain) (a b a' b' : ℕ → Bool) → Implies c.states a a' → Implies c.states b b'
    → PhaseUnder c (until_phase a b) (until_phase a' b')
until_under c a b a' b' h k =
    record {
      wholes = refl;
      starts = λ s l. bit_rises (b s) (b' s) (k s l);
      ones = k;
      nils = λ s l. neither_falls (a s) (b s) (a' s) (b' s) (h s l) (k s l);
    }

-- the quotients of until are fractions from 0 to 1
pub until_is : (c : Chain) (t : ℕ) (a b : ℕ → Bool) (s n : ℕ) → IsFraction (until_quotient c t a b s n)
unfolding load
until_is c t a b s n =
    quotient_is (load c t) (step_value c (until_phase a b) s) (omega arith) (λ k. divisor_some c 1 (omega arith) k) n

pub until_le : (c : Chain) (t : ℕ) (a b : ℕ → Bool) (s n : ℕ) → s < c.states
    → (until_quotient c t a b s n).top ≤ (until_quotient c t a b s n).bottom
until_le c t a b s n l =
    quotient_le (load c t) (step_value c (until_phase a b) s) (λ k. step_le c (until_phase a b) (until_starts c a b) k s l) n

-- and rise with the reading
pub until_rises : (c : Chain) (t : ℕ) (a b a' b' : ℕ → Bool) → Implies c.states a a' → Implies c.states b b'
    → (s n : ℕ) → s < c.states → Under (until_quotient c t a b s n) (until_quotient c t a' b' s n)
until_rises c t a b a' b' h k s n l =
    quotient_rises (load c t) (step_value c (until_phase a b) s) (step_value c (until_phase a' b') s)
    (λ j. record {
      tops = step_rises c (until_phase a b) (until_phase a' b') (until_starts c a b) (until_under c a b a' b' h k) j s l;
      bottoms = refl;
    })
    n

-- readings that are the same at each state have the same quotients
pub until_same : (c : Chain) (t : ℕ) (a b a' b' : ℕ → Bool) → ((s : ℕ) → s < c.states → a s ≡ a' s) → ((s : ℕ) → s < c.states → b s ≡ b' s)
    → (s n : ℕ) → s < c.states → ((until_quotient c t a b s n).top ≡ (until_quotient c t a' b' s n).top) × ((until_quotient c t a b s n).bottom ≡ (until_quotient c t a' b' s n).bottom)
until_same c t a b a' b' h k s n l =
    let up : Under (until_quotient c t a b s n) (until_quotient c t a' b' s n)
    = until_rises c t a b a' b' (λ u m e. sym (h u m) ∙ e) (λ u m e. sym (k u m) ∙ e) s n l in
    let down : Under (until_quotient c t a' b' s n) (until_quotient c t a b s n)
    = until_rises c t a' b' a b (λ u m e. h u m ∙ e) (λ u m e. k u m ∙ e) s n l in
    (omega (arith, up.tops, down.tops), up.bottoms)

-- undecided as no is the least reading, undecided as yes the greatest
pub as_no_least : (v : Verdict) (b : Bool) → Agrees v b → as_no v ≡ true → b ≡ true
unfolding Agrees
as_no_least No b h e = absurd (true≢false (sym e))
as_no_least Yes b h e = h
as_no_least Undecided b h e = absurd (true≢false (sym e))

pub as_yes_greatest : (v : Verdict) (b : Bool) → Agrees v b → b ≡ true → as_yes v ≡ true
unfolding Agrees
as_yes_greatest No b h e = sym h ∙ e
as_yes_greatest Yes b h e = refl
as_yes_greatest Undecided b h e = refl

pub low_under : (c : Chain) (t : ℕ) (v w : ℕ → Verdict) (x y : ℕ → Bool) → Reading c.states v x → Reading c.states w y
    → (s n : ℕ) → s < c.states → Under (low_quotient c t v w s n) (until_quotient c t x y s n)
low_under c t v w x y h k s n l =
    until_rises c t (least v) (least w) x y (λ u m. as_no_least (v u) (x u) (h u m)) (λ u m. as_no_least (w u) (y u) (k u m)) s n l

pub high_over : (c : Chain) (t : ℕ) (v w : ℕ → Verdict) (x y : ℕ → Bool) → Reading c.states v x → Reading c.states w y
    → (s n : ℕ) → s < c.states → Under (until_quotient c t x y s n) (high_quotient c t v w s n)
high_over c t v w x y h k s n l =
    until_rises c t x y (most v) (most w) (λ u m. as_yes_greatest (v u) (x u) (h u m)) (λ u m. as_yes_greatest (w u) (y u) (k u m)) s n l
