-- The next move: a fraction from 0 to 1 that rises with the reading, and its two ends. Assumes nothing.
use Rattle.std.specs.Prelude.{◌≡◌, refl, Bool, true, false, cond, ℕ, suc, ◌+◌, ◌*◌, ◌-◌, ◌/◌, ◌%◌, ◌≤◌, ◌<◌, eqb}
use Rattle.std.proofs.Common.{sym, ◌∙◌, arith, div-add-mod', mod-lt, lt_of_mul-lt-mul_right}
use Rattle.std.proofs.lemmas.Bool.{eqb-false}
use Rattle.csl.specs.Limits.{billion}
use Rattle.csl.specs.Fraction.{Fraction, frac, IsFraction, Below, billionths, in_billionths, round_down, round_up}
use Rattle.csl.specs.Chain.{Chain}
use Rattle.csl.specs.Verdicts.{Verdict, Reading, least, most}
use Rattle.csl.specs.Next.{next_exit_rate, entering_rate, divided_by, next_fraction}
use Rattle.csl.proofs.Laws.Sum.{sum_le}
use Rattle.csl.proofs.Laws.Fraction.{Under}
use Rattle.csl.proofs.Laws.Quotient.{Implies, as_no_least, as_yes_greatest}

pub into_le : (b : Bool) (r : ℕ) → cond b r 0 ≤ r
into_le true r = omega arith
into_le false r = omega arith

into_rises : (a b : Bool) (r : ℕ) → (a ≡ true → b ≡ true) → cond a r 0 ≤ cond b r 0
into_rises true b r h = rw (h refl) (omega arith)
into_rises false b r h = omega arith

entering_le : (c : Chain) (x : ℕ → Bool) (s : ℕ) → entering_rate c x s ≤ next_exit_rate c s
unfolding entering_rate next_exit_rate
entering_le c x s = sum_le (λ t. cond (x t) (c.rate s t) 0) (c.rate s) c.states (λ t l. into_le (x t) (c.rate s t))

entering_rises : (c : Chain) (x y : ℕ → Bool) (s : ℕ) → Implies c.states x y → entering_rate c x s ≤ entering_rate c y s
unfolding entering_rate
entering_rises c x y s h =
    sum_le (λ t. cond (x t) (c.rate s t) 0) (λ t. cond (y t) (c.rate s t) 0) c.states (λ t l. into_rises (x t) (y t) (c.rate s t) (h t l))

pub divided_is : (a b : ℕ) → IsFraction (divided_by a b)
divided_is a b = go (eqb b 0) refl
  where
    go : (z : Bool) → eqb b 0 ≡ z → IsFraction (cond z (frac 0 1) (frac a b))
    go true e = omega arith
    go false e = let n : b ≡ 0 → ⊥ = eqb-false _ _ e in omega arith

pub divided_le : (a b : ℕ) → a ≤ b → (divided_by a b).top ≤ (divided_by a b).bottom
divided_le a b l = go (eqb b 0)
  where
    go : (z : Bool) → (cond z (frac 0 1) (frac a b)).top ≤ (cond z (frac 0 1) (frac a b)).bottom
    go true = omega arith
    go false = l

divided_rises : (a a' b : ℕ) → a ≤ a' → Under (divided_by a b) (divided_by a' b)
divided_rises a a' b l = go (eqb b 0)
  where
    go : (z : Bool) → Under (cond z (frac 0 1) (frac a b)) (cond z (frac 0 1) (frac a' b))
    go true = record { tops = omega arith; bottoms = refl }
    go false = record { tops = l; bottoms = refl }

pub next_is : (c : Chain) (x : ℕ → Bool) (s : ℕ) → IsFraction (next_fraction c x s)
unfolding next_fraction
next_is c x s = divided_is (entering_rate c x s) (next_exit_rate c s)

pub next_le : (c : Chain) (x : ℕ → Bool) (s : ℕ) → (next_fraction c x s).top ≤ (next_fraction c x s).bottom
unfolding next_fraction
next_le c x s = divided_le (entering_rate c x s) (next_exit_rate c s) (entering_le c x s)

pub next_rises : (c : Chain) (x y : ℕ → Bool) (s : ℕ) → Implies c.states x y → Under (next_fraction c x s) (next_fraction c y s)
unfolding next_fraction
next_rises c x y s h = divided_rises (entering_rate c x s) (entering_rate c y s) (next_exit_rate c s) (entering_rises c x y s h)

-- readings that are the same at each state have the same fraction
pub next_same : (c : Chain) (x y : ℕ → Bool) (s : ℕ) → ((u : ℕ) → u < c.states → x u ≡ y u)
    → ((next_fraction c x s).top ≡ (next_fraction c y s).top) × ((next_fraction c x s).bottom ≡ (next_fraction c y s).bottom)
next_same c x y s h =
    let up : Under (next_fraction c x s) (next_fraction c y s) = next_rises c x y s (λ u m e. sym (h u m) ∙ e) in
    let down : Under (next_fraction c y s) (next_fraction c x s) = next_rises c y x s (λ u m e. h u m ∙ e) in
    (omega (arith, up.tops, down.tops), up.bottoms)

pub next_low : (c : Chain) (v : ℕ → Verdict) (x : ℕ → Bool) → Reading c.states v x → (s : ℕ)
    → Under (next_fraction c (least v) s) (next_fraction c x s)
next_low c v x h s = next_rises c (least v) x s (λ u m. as_no_least (v u) (x u) (h u m))

pub next_high : (c : Chain) (v : ℕ → Verdict) (x : ℕ → Bool) → Reading c.states v x → (s : ℕ)
    → Under (next_fraction c x s) (next_fraction c (most v) s)
next_high c v x h s = next_rises c x (most v) s (λ u m. as_yes_greatest (v u) (x u) (h u m))

-- a fraction rounded down to billionths, and up: on its own side, and less than a billionth away
pub record RoundedDown (x : Fraction) (d : ℕ) : Type 0 where
  pub side : Below (billionths d) x
  pub near : x.top * billion < (d + 1) * x.bottom

pub record RoundedUp (x : Fraction) (u : ℕ) : Type 0 where
  pub side : Below x (billionths u)
  pub near : u * x.bottom < x.top * billion + x.bottom

pub round_down_lem : (x : Fraction) → IsFraction x → RoundedDown x (round_down (in_billionths x))
round_down_lem x is =
    let n : ℕ = x.top * billion in
    let e : n / x.bottom * x.bottom + n % x.bottom ≡ n = div-add-mod' n x.bottom in
    let l : n % x.bottom < x.bottom = mod-lt n is in
    record { side = omega arith; near = omega arith }

pub round_up_lem : (x : Fraction) → IsFraction x → RoundedUp x (round_up (in_billionths x))
round_up_lem x is =
    let n : ℕ = x.top * billion + (x.bottom - 1) in
    let e : n / x.bottom * x.bottom + n % x.bottom ≡ n = div-add-mod' n x.bottom in
    let l : n % x.bottom < x.bottom = mod-lt n is in
    record { side = omega arith; near = omega arith }

-- neither is over 1, of a fraction that is not
less_than_next : {a b : ℕ} → a < suc b → a ≤ b
less_than_next h = omega arith

pub down_range : (x : Fraction) (d : ℕ) → IsFraction x → x.top ≤ x.bottom → RoundedDown x d → d ≤ billion
down_range x d is le k = less_than_next (lt_of_mul-lt-mul_right x.bottom (omega (arith, is, le, k.side)))

pub up_range : (x : Fraction) (u : ℕ) → IsFraction x → x.top ≤ x.bottom → RoundedUp x u → u ≤ billion
up_range x u is le k = less_than_next (lt_of_mul-lt-mul_right x.bottom (omega (arith, is, le, k.near)))

-- and they differ by at most 1
pub rounded_apart : (x : Fraction) (d u : ℕ) → RoundedDown x d → RoundedUp x u → u ≤ d + 1
rounded_apart x d u h k = less_than_next (lt_of_mul-lt-mul_right x.bottom (between (x.top * billion) x.bottom h.near k.near))
  where
    between : (n b : ℕ) → n < (d + 1) * b → u * b < n + b → u * b < suc (d + 1) * b
    between n b i j = omega arith
