-- Hours without a point: they are read, tested and weighed as document 01 has it for whole hours. Assumes nothing.
use Rattle.std.specs.Prelude.{◌≡◌, Bool, true, false, cond, ◌||◌, [], ◌∷◌, leb, eqb, None, Some}
use Rattle.std.proofs.Math.Path.{refl}
use Prim.Native.Nat.{ℕ, zero, suc, ◌*◌}
use Rattle.std.proofs.Common.{arith, le-leb, leb-true, leb-false}
use Rattle.std.proofs.lemmas.Bool.{lt-leb}
use Rattle.csl.specs.Text.{Text, any}
use Rattle.csl.specs.Limits.{formula_digits, hour}
use Rattle.csl.specs.Number.{is_number, value_of}
use Rattle.csl.specs.Line.{ahead, parts}
use Rattle.csl.specs.Hours.{point, hundredths_in, hundredths_of}
use Rattle.csl.specs.Fraction.{Fraction, frac, Same, times, round_up}
use Rattle.csl.specs.Phase.{weight, quotient}
use Rattle.csl.proofs.Laws.Fraction.{same_times, same_over, same_sum}

-- a text without the mark is one part
pub one_part : (mark : ℕ) (w : Text) → any (λ b. eqb b mark) w ≡ false → parts mark w ≡ w ∷ []
unfolding parts any ahead
one_part mark [] h = refl
one_part mark (b ∷ w) h = go (eqb b mark) h (one_part mark w)
  where
    go : (p : Bool) → (p || any (λ b. eqb b mark) w) ≡ false → (any (λ b. eqb b mark) w ≡ false → parts mark w ≡ w ∷ [])
        → cond p ([] ∷ parts mark w) (ahead b (parts mark w)) ≡ (b ∷ w) ∷ []
    go true e ih = let z : ◌≡◌ {A = ℕ} 0 1 = cc in absurd (omega arith)
    go false e ih = rw (ih e)

pub whole_read : (w : Text) → any (λ b. eqb b point) w ≡ false
    → hundredths_of w ≡ cond (is_number formula_digits w) (Some (value_of w * hour)) None
unfolding hundredths_of hundredths_in
whole_read w h = rw (one_part point w h)

-- a rate times whole hours, in hundredths
pub in_hundredths : (q t : ℕ) → q * (t * hour) ≡ q * t * hour
in_hundredths q t = omega arith

-- a product at most a limit, both counted in hundredths
pub counted : (a m : ℕ) → leb (a * hour) (m * hour) ≡ leb a m
counted a m = go (leb a m) refl
  where
    go : (p : Bool) → leb a m ≡ p → leb (a * hour) (m * hour) ≡ p
    go true e = le-leb (a * hour) (m * hour) (omega (arith, leb-true a m e))
    go false e = lt-leb (a * hour) (m * hour) (omega (arith, leb-false a m e))

pub rounded : (a : ℕ) → round_up (frac (a * hour) (1000000 * hour)) ≡ round_up (frac a 1000000)
rounded a = omega arith

-- weights and quotients of equal loads are equal
module _ (l m : Fraction) (same : Same l m) where
  same_weight : (k : ℕ) → Same (weight l k) (weight m k)
  unfolding weight
  same_weight zero = refl
  same_weight (suc k) =
      same_over (times (weight l k) l) (times (weight m k) m) (frac (suc k) 1) (frac (suc k) 1)
      (same_times (weight l k) (weight m k) l m (same_weight k) same) refl

  pub same_quotient : (v : ℕ → Fraction) (n : ℕ) → Same (quotient l v n) (quotient m v n)
  unfolding quotient
  same_quotient v n =
      same_over _ _ _ _
      (same_sum (λ k. times (weight l k) (v k)) (λ k. times (weight m k) (v k)) (λ k. same_times (weight l k) (weight m k) (v k) (v k) (same_weight k) refl) n)
      (same_sum (weight l) (weight m) same_weight n)
