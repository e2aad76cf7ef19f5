-- What values leave of 1: its quotients and theirs add to 1, so that a lower bound of the one is an upper bound of the other. Assumes
-- nothing.
use Rattle.std.specs.Prelude.{◌≡◌, ℕ, zero, suc, ◌+◌, ◌*◌, ◌-◌, ◌≤◌}
use Rattle.std.proofs.Math.Path.{refl}
use Rattle.std.proofs.Common.{ap, arith, mul-le-mul_right, sub-add_cancel}
use Rattle.csl.specs.Limits.{billion}
use Rattle.csl.specs.Fraction.{Fraction, frac, Below, plus, times, sum_up, billionths}
use Rattle.csl.specs.Phase.{weight, quotient}

abbrev pub left_of : (ℕ → Fraction) → ℕ → Fraction
left_of v k = frac ((v k).bottom - (v k).top) (v k).bottom

-- x and y have one divisor and add to z
pub record Shares (x y z : Fraction) : Type 0 where
  pub bottoms : x.bottom ≡ y.bottom
  pub tops : (x.top + y.top) * z.bottom ≡ z.top * y.bottom

shares_plus : (x y z x' y' z' : Fraction) → Shares x y z → Shares x' y' z' → Shares (plus x x') (plus y y') (plus z z')
shares_plus x y z x' y' z' h k =
    record {
      bottoms = rw (h.bottoms, k.bottoms);
      tops = rw (h.bottoms, k.bottoms)
          (omega (
            arith,
            ap (λ (e : ℕ). e * (y'.bottom * z'.bottom)) h.tops,
            ap (λ (e : ℕ). e * (y.bottom * z.bottom)) k.tops,
          ));
    }

shares_sum : (f g h : ℕ → Fraction) → ((k : ℕ) → Shares (f k) (g k) (h k)) → (n : ℕ) → Shares (sum_up f n) (sum_up g n) (sum_up h n)
unfolding sum_up
shares_sum f g h r zero = r 0
shares_sum f g h r (suc n) = shares_plus _ _ _ _ _ _ (shares_sum f g h r n) (r (suc n))

shares_times : (w x y : Fraction) → x.bottom ≡ y.bottom → x.top + y.top ≡ y.bottom → Shares (times w x) (times w y) w
shares_times w x y h k = record { bottoms = rw h; tops = omega (arith, ap (λ (e : ℕ). e * (w.top * w.bottom)) k) }

module _ (l : Fraction) (v : ℕ → Fraction) (most : (k : ℕ) → (v k).top ≤ (v k).bottom) where
  pub quotients_share : (n : ℕ) → Shares (quotient l (left_of v) n) (quotient l v n) (frac 1 1)
  unfolding quotient
  quotients_share n =
      let r : Shares (sum_up (λ j. times (weight l j) (left_of v j)) n) (sum_up (λ j. times (weight l j) (v j)) n) (sum_up (weight l) n)
      = shares_sum (λ j. times (weight l j) (left_of v j)) (λ j. times (weight l j) (v j)) (weight l)
      (λ j. shares_times (weight l j) (left_of v j) (v j) refl (sub-add_cancel (most j))) n in
      record { bottoms = rw r.bottoms; tops = omega (arith, r.tops) }

  -- an upper end is what a lower end of the rest leaves of 1
  pub left_above : (n left upper : ℕ) → billion ≤ left + upper → Below (billionths left) (quotient l (left_of v) n)
      → Below (quotient l v n) (billionths upper)
  left_above n left upper e h =
      let s = quotients_share n in
      omega (arith, s.tops, ap (λ (b : ℕ). left * b) s.bottoms, mul-le-mul_right (quotient l v n).bottom e)
