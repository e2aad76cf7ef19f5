-- The two ends of an until between two times at a state, by cases as the code decides them, keep the rules for ends. Assumes nothing.
use Rattle.std.specs.Prelude.{◌≡◌, Bool, ◌&&◌, leb, eqb}
use Rattle.std.proofs.Math.Path.{refl}
use Rattle.std.proofs.Common.{sym, arith, leb-true, eqb-true}
use Rattle.std.proofs.Math.Bool.{true, false, cond}
use Prim.Native.Nat.{ℕ, suc, ◌*◌, ◌-◌, ◌≤◌, ◌<◌}
use Rattle.std.proofs.lemmas.Bool.{eqb-false}
use Rattle.csl.specs.Limits.{billion}
use Rattle.csl.specs.Formula.{until_of, between_of}
use Rattle.csl.specs.Chain.{Chain, top_rate, depth}
use Rattle.csl.specs.Phase.{bit}
use Rattle.csl.specs.Verdicts.{Verdict, No, Yes, Undecided, as_no, as_yes, least, most}
use Rattle.csl.specs.Ends.{EndsAt}
use Rattle.csl.proofs.Laws.PointEnds.{still_lower_lem, still_upper_lem}
use Rattle.csl.proofs.Laws.BetweenEnds.{between_impossible, between_still_ends}
use Rattle.csl.specs.Laws.Decided.{all_decided}
use Rattle.csl.proofs.Laws.Decided.{all_decided_lem}
use Rattle.csl.proofs.Laws.Sum.{greatest_le}
use Rattle.bounds.specs.Width.{most_depth}
use Rattle.bounds.specs.StepValues.{StartedRounds, pointed, most_gap, gap_of, earlier_gap}
use Rattle.bounds.specs.Reading.{summed_lower, summed_upper}
use Rattle.bounds.proofs.UntilEnds.{differ}
use Rattle.bounds.specs.TwoPhases.{near_end}
use Rattle.bounds.proofs.TwoPhases.{near_pairs, summed_pairs}
use Rattle.bounds.specs.EarlierEnds.{Near, earlier_lower, earlier_upper}

pub gap_near : (decided : Bool) (lower upper : ℕ → ℕ) (n : ℕ) → gap_of decided lower upper n ≤ most_gap
    → Near decided lower upper n (gap_of decided lower upper n)
unfolding gap_of
gap_near true lower upper n h = record { all = refl; apart = λ s l. omega (arith, greatest_le (λ i. upper i - lower i) s n l) }
gap_near false lower upper n h = absurd (omega arith)

-- no load at all: a value of 0 or 1 where both operands hold
both_bits : (a b : Bool) (x : ℕ) → x ≡ billion * bit b → billion * bit (a && b) ≡ cond a x 0
both_bits true b x h = sym h
both_bits false b x h = omega arith

module _ (c : Chain) (t u : ℕ) (v w : ℕ → Verdict) (lo up : ℕ → ℕ)
    (later : (i : ℕ) → i < c.states → EndsAt c (until_of (u - suc t) v w) i (lo i) (up i)) (s : ℕ) (in_range : s < c.states) where
  still_pair : top_rate c ≡ 0 → EndsAt c (between_of (suc t) u v w) s (cond (as_no (v s)) (lo s) 0) (cond (as_yes (v s)) (up s) 0)
  still_pair z =
      let e : top_rate c * (u - suc t) ≡ 0 = rw z (omega arith) in
      rw (
        ← both_bits (as_no (v s)) (as_no (w s)) (lo s) (still_lower_lem c (u - suc t) v w s in_range (lo s) (up s) e (later s in_range)),
        ← both_bits (as_yes (v s)) (as_yes (w s)) (up s) (still_upper_lem c (u - suc t) v w s in_range (lo s) (up s) e (later s in_range)),
      )
      (between_still_ends c t u v w s in_range z)

  -- where the first operand is no the ends are 0, elsewhere others
  point_pair : (x : Verdict) (lower upper : ℕ) → v s ≡ x → ((v s ≡ No → ⊥) → EndsAt c (between_of (suc t) u v w) s lower upper)
      → EndsAt c (between_of (suc t) u v w) s (pointed x No lower) (pointed x No upper)
  point_pair No lower upper e h = between_impossible c t u v w s in_range e
  point_pair Yes lower upper e h = h (λ i. differ i e λ z. omega arith)
  point_pair Undecided lower upper e h = h (λ i. differ i e λ z. omega arith)

  module _ (val high : ℕ → ℕ → ℕ) (small : depth c (suc t) ≤ most_depth) (r : 0 < top_rate c * suc t → StartedRounds c (least v) lo val)
      (r' : 0 < top_rate c * suc t → StartedRounds c (most v) up high) where
    gap : ℕ
    gap = earlier_gap c.states v lo up

    by_gap : 0 < top_rate c * suc t → (z : Bool) → leb gap most_gap ≡ z → (v s ≡ No → ⊥)
        → EndsAt c (between_of (suc t) u v w) s (summed_lower c (suc t) val s) (cond z (near_end c (suc t) gap val s) (summed_upper c (suc t) high s))
    unfolding gap
    by_gap p true e =
        let n : Near (all_decided c.states v) (λ i. cond (as_no (v i)) (lo i) 0) (λ i. cond (as_yes (v i)) (up i) 0) c.states gap
        = gap_near (all_decided c.states v) (λ i. cond (as_no (v i)) (lo i) 0) (λ i. cond (as_yes (v i)) (up i) 0) c.states (leb-true gap most_gap e) in
        near_pairs c t u v w lo up later s in_range p small val (r p) gap (leb-true gap most_gap e) (all_decided_lem c.states v n.all) n.apart
    by_gap p false e = summed_pairs c t u v w lo up later s in_range p small val (r p) high (r' p)

    by_load : (z : Bool) → eqb (top_rate c * suc t) 0 ≡ z
        → EndsAt c (between_of (suc t) u v w) s (cond z (cond (as_no (v s)) (lo s) 0) (pointed (v s) No (summed_lower c (suc t) val s)))
        (cond z (cond (as_yes (v s)) (up s) 0) (pointed (v s) No (cond (leb gap most_gap) (near_end c (suc t) gap val s) (summed_upper c (suc t) high s))))
    by_load true e = let z : top_rate c * suc t ≡ 0 = eqb-true _ _ e in still_pair (omega (arith, z))
    by_load false e =
        let n : top_rate c * suc t ≡ 0 → ⊥ = eqb-false _ _ e in
        let p : 0 < top_rate c * suc t = omega arith in
        point_pair (v s) _ _ refl (by_gap p (leb gap most_gap) refl)

    -- the ends keep every rule
    pub earlier_ends : EndsAt c (between_of (suc t) u v w) s (earlier_lower c (suc t) v lo val s) (earlier_upper c (suc t) v lo up val high s)
    unfolding gap
    earlier_ends = by_load (eqb (top_rate c * suc t) 0) refl
