-- The ends of an until with load above 0, from sums: the lower end of the reading with undecided as no, the upper end of that with
-- undecided as yes. Assumes nothing.
use Rattle.std.specs.Prelude.{◌≡◌, Bool, true, false, ℕ, zero, suc, ◌*◌, ◌-◌, ◌/◌, ◌≤◌, ◌<◌}
use Rattle.std.proofs.Math.Path.{refl}
use Rattle.std.proofs.Common.{sym, ◌∙◌, ap, arith}
use Rattle.csl.specs.Limits.{billion, rate_hundredths}
use Rattle.csl.specs.Formula.{until_of}
use Rattle.csl.specs.Chain.{Chain, top_rate, load, depth}
use Rattle.csl.specs.Phase.{Phase, bit}
use Rattle.csl.specs.Verdicts.{Verdict, No, Yes, least, most}
use Rattle.csl.specs.Until.{until_phase}
use Rattle.csl.specs.Path.{AllDecided}
use Rattle.csl.specs.Ends.{EndsAt}
use Rattle.csl.proofs.Laws.Verdicts.{decided_same}
use Rattle.csl.proofs.Laws.Quotient.{until_starts}
use Rattle.bounds.proofs.Ends.{end_most}
use Rattle.bounds.proofs.Upper.{left_same}
use Rattle.bounds.specs.Width.{most_depth}
use Rattle.bounds.specs.StepValues.{Rounds}
use Rattle.bounds.specs.SummedEnds.{Bounds, ends_summed}
use Rattle.bounds.specs.Rounded.{rounds_run, rounds_same, rounds_most}
use Rattle.bounds.specs.PhaseEnd.{PhaseEnds}
use Rattle.bounds.proofs.PhaseEnd.{phase_ends}
use Rattle.bounds.specs.Reading.{summed_lower, summed_upper}

-- a start of until is 0 or 1
pub bit_most : (b : Bool) → bit b ≤ 1
bit_most true = omega arith
bit_most false = omega arith

-- with every operand state decided the two readings are one
decided_rounds : (c : Chain) (v w : ℕ → Verdict) → AllDecided c v → AllDecided c w → (val : ℕ → ℕ → ℕ)
    → Rounds c (until_phase (most v) (most w)) val → Rounds c (until_phase (least v) (least w)) val
decided_rounds c v w d e val r =
    record {
      start = λ s l. rw (decided_same (w s) (e s l)) (r.start s l);
      next = λ k s l. rw (decided_same (v s) (d s l), decided_same (w s) (e s l)) (r.next k s l);
    }

pub factor_some : (q t : ℕ) → 0 < q * t → 0 < q
factor_some zero t h = absurd (omega arith)
factor_some (suc q) t h = omega arith

module _ (c : Chain) (t s : ℕ) (in_range : s < c.states) (small : depth c t ≤ most_depth) (moving : 0 < top_rate c * t) where
  -- one reading
  reading_bounds : (x y : ℕ → Bool) (val : ℕ → ℕ → ℕ) → Rounds c (until_phase x y) val
      → Bounds c t x y s (summed_lower c t val s) (summed_upper c t val s)
  unfolding load depth
  reading_bounds x y val r =
      let p : PhaseEnds c (until_phase x y) (top_rate c * t) rate_hundredths 0 s (summed_lower c t val s) (summed_upper c t val s)
      = phase_ends (top_rate c * t) rate_hundredths moving (omega arith) c (until_phase x y) (factor_some (top_rate c) t moving) (omega arith)
      (until_starts c x y) (rounds_run refl r) s in_range small in
      record { below = p.below; above = p.above; near = omega (arith, p.near) }

  lower_small : (x y : ℕ → Bool) (val : ℕ → ℕ → ℕ) → Rounds c (until_phase x y) val → summed_lower c t val s ≤ billion
  lower_small x y val r =
      end_most (top_rate c * t) rate_hundredths (top_rate c * t / rate_hundredths) (depth c t) (λ k. val k s)
      (λ k i. rounds_most c (until_phase x y) _ val (λ u l. omega (arith, bit_most (y u))) r k s in_range)

  same_upper : (ph : Phase) (val high : ℕ → ℕ → ℕ) → Rounds c ph val → Rounds c ph high → summed_upper c t val s ≡ summed_upper c t high s
  same_upper ph val high r r' =
      ap (λ (x : ℕ). billion - x)
      (left_same (top_rate c * t) rate_hundredths (top_rate c * t / rate_hundredths) (depth c t) 0 (λ k. val k s) (λ k. high k s)
      (λ k i. rounds_same c ph _ val r k s in_range ∙ sym (rounds_same c ph _ high r' k s in_range)))

  -- Of the reading with undecided as no the code takes the lower end, of that with undecided as yes the upper end; each reading is bound
  -- by both.
  pub summed_ends : (v w : ℕ → Verdict) (val high : ℕ → ℕ → ℕ) → Rounds c (until_phase (least v) (least w)) val
      → Rounds c (until_phase (most v) (most w)) high → (w s ≡ Yes → ⊥) → (v s ≡ No → w s ≡ No → ⊥)
      → EndsAt c (until_of t v w) s (summed_lower c t val s) (summed_upper c t high s)
  summed_ends v w val high r r' not-certain not-impossible =
      let b = reading_bounds (least v) (least w) val r in
      ends_summed c t v w s (summed_lower c t val s) (summed_upper c t val s) (summed_lower c t high s) (summed_upper c t high s)
      b (reading_bounds (most v) (most w) high r')
      (λ d e. rw (← same_upper (until_phase (least v) (least w)) val high r (decided_rounds c v w d e high r')) b.near)
      (lower_small (least v) (least w) val r)
      (omega arith)
      (λ z. omega arith) not-certain not-impossible
