-- Whole hours: the ends that are found for t hours, in hundredths, are those of document 01's load q × t / 1,000,000, to the last billionth.
-- What the load's two numbers are both multiplied by changes no weight. Assumes nothing.
use Rattle.std.specs.Prelude.{◌≡◌, Bool, true, false, eqb}
use Rattle.std.proofs.Math.Path.{refl}
use Rattle.std.proofs.Common.{ap, ◌∙◌, arith, eqb-true, eq-eqb, ne_eqb}
use Prim.Native.Nat.{ℕ, zero, suc, ◌+◌, ◌*◌, ◌-◌, ◌/◌, ◌<◌}
use Rattle.std.proofs.Math.Nat.{mul-div-mul_right}
use Rattle.std.proofs.lemmas.Bool.{eqb-false}
use Rattle.numbers.specs.Sum.{sum_cong}
use Rattle.csl.specs.Limits.{hour, spare_steps}
use Rattle.csl.specs.Fraction.{frac, round_up}
use Rattle.csl.specs.Chain.{Chain, top_rate}
use Rattle.csl.specs.Verdicts.{Verdict, least, most}
use Rattle.csl.specs.Until.{until_phase}
use Rattle.csl.proofs.Theorems.{whole_hours_have_their_depth}
use Rattle.csl.proofs.Laws.WholeHours.{in_hundredths}
use Rattle.bounds.specs.Ladder.{ladder}
use Rattle.bounds.specs.Weight.{peak, low, apart}
use Rattle.bounds.specs.Unit.{one, part}
use Rattle.bounds.specs.Last.{last_same}
use Rattle.bounds.specs.Ends.{total, last_step, gathered, lower_end}
use Rattle.bounds.specs.Upper.{gatherable, left_end}
use Rattle.bounds.specs.StepValues.{until_lower_of, until_upper_of}
use Rattle.bounds.specs.Rounded.{rounded}
use Rattle.bounds.specs.Found.{lower_found, upper_found}

module _ (h : ℕ) (some : 0 < h) where
  ladder_times : (p : ℕ) (x y x' y' : ℕ → ℕ) → ((i : ℕ) → x' i ≡ x i * h) → ((i : ℕ) → y' i ≡ y i * h) → (j : ℕ)
      → ladder p x' y' j ≡ ladder p x y j
  unfolding ladder
  ladder_times p x y x' y' e f zero = refl
  ladder_times p x y x' y' e f (suc j) =
      rw (ladder_times p x y x' y' e f j, e j, f j)
      (ap (λ (z : ℕ). z / (y j * h)) (omega arith) ∙ mul-div-mul_right {m = h} (ladder p x y j * x j) (y j) some)

  module _ (a b m : ℕ) where
    low_times : (k : ℕ) → low (a * h) (b * h) m k ≡ low a b m k
    unfolding low
    low_times k =
        rw (
          ladder_times peak (λ i. (m - i) * b) (λ i. a) (λ i. (m - i) * (b * h)) (λ i. a * h) (λ i. omega arith) (λ i. refl) (m - k),
          ladder_times peak (λ i. a) (λ i. suc (m + i) * b) (λ i. a * h) (λ i. suc (m + i) * (b * h)) (λ i. refl) (λ i. omega arith) (k - m),
        )

    module _ (d : ℕ) where
      total_times : total (a * h) (b * h) m d ≡ total a b m d
      unfolding total
      total_times =
          rw (low_times d, sum_cong (λ k. low (a * h) (b * h) m k + apart m k) (λ k. low a b m k + apart m k) (suc d) (λ k l. rw (low_times k)))

      last_times : last_step (a * h) (b * h) m d ≡ last_step a b m d
      unfolding last_step
      last_times =
          rw total_times (last_same (low (a * h) (b * h) m) (low a b m) _ d (λ k l. low_times k) d 0 (omega arith))

      parts_times : (l : ℕ) (v : ℕ → ℕ) → gathered (a * h) (b * h) m l v ≡ gathered a b m l v
      unfolding gathered
      parts_times l v =
          sum_cong (λ k. part (low (a * h) (b * h) m k) (v k)) (λ k. part (low a b m k) (v k)) (suc l) (λ k i. rw (low_times k))

      lower_times : (v : ℕ → ℕ) → lower_end (a * h) (b * h) m d v ≡ lower_end a b m d v
      unfolding lower_end
      lower_times v = rw (last_times, total_times, parts_times (last_step a b m d) v)

      left_times : (e : ℕ) (v : ℕ → ℕ) → left_end (a * h) (b * h) m d e v ≡ left_end a b m d e v
      unfolding left_end gatherable gathered
      left_times e v =
          rw (last_times, total_times, parts_times (last_step a b m d) v, parts_times (last_step a b m d) (λ k. one - (e + k)))

-- a product that counts hundredths is 0 where the product that counts hours is, and has the same whole part
nothing_times : (a : ℕ) → eqb (a * hour) 0 ≡ eqb a 0
nothing_times a = go (eqb a 0) refl
  where
    go : (p : Bool) → eqb a 0 ≡ p → eqb (a * hour) 0 ≡ p
    go true e = let z = eqb-true a 0 e in eq-eqb (a * hour) 0 (omega arith)
    go false e = let z = eqb-false a 0 e in ne_eqb (a * hour) 0 (λ i. z (omega arith))

whole_part : (a : ℕ) → a * hour / (1000000 * hour) ≡ a / 1000000
whole_part a = mul-div-mul_right {m = hour} a 1000000 (omega arith)

module _ (c : Chain) (t : ℕ) (v w : ℕ → Verdict) (s : ℕ) where
  -- document 01's load is q × t / 1,000,000: its top, and its depth
  abbrev top : ℕ
  top = top_rate c * t

  abbrev deep : ℕ
  deep = 2 * round_up (frac top 1000000) + spare_steps

  pub whole_hours_lower : lower_found c (t * hour) v w s
      ≡ until_lower_of top 1000000 deep (v s) (w s) (λ k. rounded c (until_phase (least v) (least w)) k s)
  whole_hours_lower =
      rw (
        whole_hours_have_their_depth c t,
        in_hundredths (top_rate c) t,
        nothing_times top,
        whole_part top,
        lower_times hour (omega arith) top 1000000 (top / 1000000) deep (λ k. rounded c (until_phase (least v) (least w)) k s),
      )

  pub whole_hours_upper : upper_found c (t * hour) v w s
      ≡ until_upper_of top 1000000 deep (v s) (w s) (λ k. rounded c (until_phase (most v) (most w)) k s)
  whole_hours_upper =
      rw (
        whole_hours_have_their_depth c t,
        in_hundredths (top_rate c) t,
        nothing_times top,
        whole_part top,
        left_times hour (omega arith) top 1000000 (top / 1000000) deep 0 (λ k. rounded c (until_phase (most v) (most w)) k s),
      )
