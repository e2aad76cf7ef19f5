-- Until between two times: from ANY ends of the later phase that keep until's rules, at every state, the sums over the earlier phase give ends that
-- keep every rule: the lower ones started from the later phase's lower ends, the upper ones from its upper ends, or, where these are near the lower
-- ones, from the same run. Assumes nothing.
use Rattle.std.specs.Prelude.{◌≡◌, refl, Bool, true, false, cond, not}
use Rattle.std.proofs.Common.{ap, sym, ◌∙◌, arith}
use Prim.Native.Nat.{ℕ, suc, ◌+◌, ◌*◌, ◌-◌, ◌/◌, ◌≤◌, ◌<◌}
use Rattle.numbers.specs.Hint.{le_times}
use Rattle.csl.specs.Limits.{billion, rate_hundredths, width_factor}
use Rattle.csl.specs.Formula.{until_of, between_of}
use Rattle.csl.specs.Fraction.{Fraction, frac, IsFraction, Below, plus, billionths}
use Rattle.csl.specs.Chain.{Chain, top_rate, load, depth}
use Rattle.csl.specs.Phase.{moved, step_value, quotient}
use Rattle.csl.specs.Verdicts.{Verdict, No, least, most}
use Rattle.csl.specs.Until.{until_slack}
use Rattle.csl.specs.Between.{later_quotient, earlier_phase, between_quotient, between_slack}
use Rattle.csl.specs.Ends.{EndsAt}
use Rattle.csl.specs.Path.{AllDecided}
use Rattle.csl.proofs.Laws.Fraction.{below_trans}
use Rattle.csl.proofs.Laws.Steps.{divisor_some}
use Rattle.csl.proofs.Laws.Verdicts.{decided_same}
use Rattle.csl.proofs.Laws.Quotient.{quotient_is, until_is}
use Rattle.csl.proofs.Laws.Between.{until_bottoms}
use Rattle.csl.proofs.Laws.Enclosure.{ordered_ends}
use Rattle.bounds.specs.Unit.{unit}
use Rattle.bounds.proofs.Ends.{end_most}
use Rattle.bounds.specs.Width.{most_depth}
use Rattle.bounds.specs.StepValues.{settled, Runs, started_phase, StartedRounds, most_gap}
use Rattle.bounds.specs.Rounded.{started_run, rounds_most}
use Rattle.bounds.specs.Shifted.{StartsNear}
use Rattle.bounds.proofs.Shifted.{quotients_near}
use Rattle.bounds.specs.PhaseEnd.{PhaseEnds}
use Rattle.bounds.proofs.PhaseEnd.{phase_ends}
use Rattle.bounds.specs.Reading.{summed_lower, summed_upper}
use Rattle.bounds.proofs.Reading.{factor_some}
use Rattle.bounds.specs.TwoPhases.{near_end}

-- where a fraction lies at most e billionths above another
no_room : (x y : Fraction) → Below x (plus y (billionths 0)) → Below x y
no_room x y h = omega (arith, h)

room_for_0 : (x y : Fraction) → Below x y → Below x (plus y (billionths 0))
room_for_0 x y h = omega (arith, h)

above_end : (x y : Fraction) (u e b : ℕ) → IsFraction y → Below x (plus y (billionths e)) → Below y (billionths u) → u + e ≤ b → Below x (billionths b)
above_end x y u e b is h k l =
    below_trans x (plus y (billionths e)) (billionths b) (omega (arith, is)) h (omega (arith, k, le_times y.bottom l))

below_end : (x y : Fraction) (l d e b : ℕ) → IsFraction x → Below (billionths l) x → Below x (plus y (billionths e)) → d + e ≤ l + b
    → Below (billionths d) (plus y (billionths b))
below_end x y l d e b is h k i =
    let j : Below (billionths l) (plus y (billionths e)) = below_trans (billionths l) x (plus y (billionths e)) is h k in
    omega (arith, j, le_times y.bottom i)

-- starts, by whether the first operand holds
from_start : (z : Bool) (b e w : ℕ) (q : Fraction) → q.bottom ≡ w → Below (billionths b) (plus q (billionths e))
    → Below (frac (cond z b 0) billion) (plus (frac (cond z q.top 0) w) (billionths e))
from_start true b e w q i h = rw (← i) h
from_start false b e w q i h = omega arith

to_start : (z : Bool) (b e w : ℕ) (q : Fraction) → q.bottom ≡ w → Below q (plus (billionths b) (billionths e))
    → Below (frac (cond z q.top 0) w) (plus (frac (cond z b 0) billion) (billionths e))
to_start true b e w q i h = rw (← i) h
to_start false b e w q i h = omega arith

started_small : (z : Bool) (b : ℕ) → b ≤ billion → cond z b 0 ≤ billion
started_small true b h = h
started_small false b h = omega arith

module _ (c : Chain) (t u : ℕ) (x y : ℕ → Bool) (b : ℕ → ℕ) (e n : ℕ) where
  from_later : ((i : ℕ) → i < c.states → Below (billionths (b i)) (plus (later_quotient c t u x y i n) (billionths e)))
      → StartsNear c (started_phase x b) (earlier_phase c t u x y n) e
  from_later h =
      record {
        some = omega arith;
        some' = until_is c (u - t) x y 0 n;
        ones = λ i. refl;
        ones' = λ i. refl;
        nils = λ i l. refl;
        starts = λ i l. from_start (x i) (b i) e _ (later_quotient c t u x y i n) (until_bottoms c (u - t) x y i n) (h i l);
      }

  to_later : ((i : ℕ) → i < c.states → Below (later_quotient c t u x y i n) (plus (billionths (b i)) (billionths e)))
      → StartsNear c (earlier_phase c t u x y n) (started_phase x b) e
  to_later h =
      record {
        some = until_is c (u - t) x y 0 n;
        some' = omega arith;
        ones = λ i. refl;
        ones' = λ i. refl;
        nils = λ i l. refl;
        starts = λ i l. to_start (x i) (b i) e _ (later_quotient c t u x y i n) (until_bottoms c (u - t) x y i n) (h i l);
      }

-- the later phase's ends, any that keep the rules
module _ (c : Chain) (t u : ℕ) (v w : ℕ → Verdict) (lo up : ℕ → ℕ)
    (later : (i : ℕ) → i < c.states → EndsAt c (until_of (u - suc t) v w) i (lo i) (up i))
    (s : ℕ) (in_range : s < c.states) (moving : 0 < top_rate c * suc t) (small : depth c (suc t) ≤ most_depth) where
  rate : 0 < top_rate c
  rate = factor_some (top_rate c) (suc t) moving

  -- the quotients of a phase that starts from billionths, and their ends
  abbrev started_quotient : (ℕ → Bool) → (ℕ → ℕ) → ℕ → Fraction
  started_quotient x b m = quotient (load c (suc t)) (step_value c (started_phase x b) s) m

  started_is : (x : ℕ → Bool) (b : ℕ → ℕ) (m : ℕ) → IsFraction (started_quotient x b m)
  unfolding load
  started_is x b m =
      quotient_is (load c (suc t)) (step_value c (started_phase x b) s) (omega arith) (λ k. divisor_some c billion (omega arith) k) m

  pub record StartedEnds (x : ℕ → Bool) (b : ℕ → ℕ) (lower upper : ℕ) : Type 0 where
    pub below : (m : ℕ) → depth c (suc t) ≤ m → Below (billionths lower) (started_quotient x b m)
    pub above : (m : ℕ) → depth c (suc t) ≤ m → Below (started_quotient x b m) (billionths upper)
    pub near : upper ≤ lower + 2 * depth c (suc t)

  started_ends : (x : ℕ → Bool) (b : ℕ → ℕ) → ((i : ℕ) → i < c.states → b i ≤ billion) → (val : ℕ → ℕ → ℕ) → StartedRounds c x b val
      → StartedEnds x b (summed_lower c (suc t) val s) (summed_upper c (suc t) val s)
  unfolding load depth
  started_ends x b fits val r =
      let p : PhaseEnds c (started_phase x b) (top_rate c * suc t) rate_hundredths 0 s (summed_lower c (suc t) val s) (summed_upper c (suc t) val s)
      = phase_ends (top_rate c * suc t) rate_hundredths moving (omega arith) c (started_phase x b) rate (omega arith)
      (λ i l. started_small (x i) (b i) (fits i l)) (started_run c x b val r) s in_range small in
      record { below = p.below; above = p.above; near = omega (arith, p.near) }

  near_quotients : (x y : ℕ → Bool) (b : ℕ → ℕ) (e m n : ℕ) → StartsNear c (started_phase x b) (earlier_phase c (suc t) u x y n) e
      → Below (started_quotient x b m) (plus (between_quotient c (suc t) u x y s m n) (billionths e))
  unfolding load
  near_quotients x y b e m n h = quotients_near c rate h (top_rate c * suc t) rate_hundredths (omega arith) s m in_range

  quotients_to : (x y : ℕ → Bool) (b : ℕ → ℕ) (e m n : ℕ) → StartsNear c (earlier_phase c (suc t) u x y n) (started_phase x b) e
      → Below (between_quotient c (suc t) u x y s m n) (plus (started_quotient x b m) (billionths e))
  unfolding load
  quotients_to x y b e m n h = quotients_near c rate h (top_rate c * suc t) rate_hundredths (omega arith) s m in_range

  -- an upper end of what starts from the later phase's upper ends, with a number below that too, and how it fits the lower end
  record HighEnds (lower upper : ℕ) : Type 0 where
    under : ℕ
    below : (m : ℕ) → depth c (suc t) ≤ m → Below (billionths under) (started_quotient (most v) up m)
    above : (m : ℕ) → depth c (suc t) ≤ m → Below (started_quotient (most v) up m) (billionths upper)
    near : upper ≤ under + width_factor * depth c (suc t)
    narrow : AllDecided c v → AllDecided c w → upper ≤ lower + between_slack c (suc t) u
    range : upper ≤ billion

  module _ (val : ℕ → ℕ → ℕ) (r : StartedRounds c (least v) lo val) where
    low_ends : StartedEnds (least v) lo (summed_lower c (suc t) val s) (summed_upper c (suc t) val s)
    low_ends = started_ends (least v) lo (λ i l. (later i l).lower_range) val r

    -- the ends keep every rule
    pairs : (upper : ℕ) → HighEnds (summed_lower c (suc t) val s) upper → (v s ≡ No → ⊥)
        → EndsAt c (between_of (suc t) u v w) s (summed_lower c (suc t) val s) upper
    pairs upper high possible =
        record {
          lower_side = λ m n d e.
              below_trans (billionths (summed_lower c (suc t) val s)) (started_quotient (least v) lo m) _ (started_is (least v) lo m) (low_ends.below m d)
              (no_room _ _ (near_quotients (least v) (least w) lo 0 m n
              (from_later c (suc t) u (least v) (least w) lo 0 n (λ i l. room_for_0 _ _ ((later i l).lower_side n e)))));
          lower_near = λ m n d e.
              above_end _ (started_quotient (least v) lo m) (summed_upper c (suc t) val s) (until_slack c (u - suc t)) _ (started_is (least v) lo m)
              (quotients_to (least v) (least w) lo (until_slack c (u - suc t)) m n
              (to_later c (suc t) u (least v) (least w) lo (until_slack c (u - suc t)) n (λ i l. omega (arith, (later i l).lower_near n e))))
              (low_ends.above m d) (omega (arith, low_ends.near));
          upper_side = λ m n d e.
              above_end _ (started_quotient (most v) up m) upper 0 _ (started_is (most v) up m)
              (quotients_to (most v) (most w) up 0 m n
              (to_later c (suc t) u (most v) (most w) up 0 n (λ i l. room_for_0 _ _ ((later i l).upper_side n e))))
              (high.above m d) (omega arith);
          upper_near = λ m n d e.
              below_end (started_quotient (most v) up m) _ high.under upper (until_slack c (u - suc t)) _ (started_is (most v) up m) (high.below m d)
              (near_quotients (most v) (most w) up (until_slack c (u - suc t)) m n
              (from_later c (suc t) u (most v) (most w) up (until_slack c (u - suc t)) n (λ i l. (later i l).upper_near n e)))
              (omega (arith, high.near));
          width = λ h. high.narrow h.0 h.1;
          lower_range =
              end_most (top_rate c * suc t) rate_hundredths (top_rate c * suc t / rate_hundredths) (depth c (suc t)) (λ k. val k s)
              (λ k i. rounds_most c (started_phase (least v) lo) _ val
              (λ j l. omega (arith, started_small (least v j) (lo j) (later j l).lower_range)) r k s in_range);
          upper_range = high.range;
          points = record {
            impossible = λ h. absurd (possible h);
            lower_exact = λ z. absurd (omega (arith, moving, ap (λ (q : ℕ). q * suc t) z));
            upper_exact = λ z. absurd (omega (arith, moving, ap (λ (q : ℕ). q * suc t) z));
          };
        }

    -- two starts that are near, on a first operand that is decided: the one run
    module _ (gap : ℕ) (small-gap : gap ≤ most_gap) (d : AllDecided c v)
        (apart : (i : ℕ) → i < c.states → cond (most v i) (up i) 0 ≤ cond (least v i) (lo i) 0 + gap) where
      in_order : (z : Bool) (a b : ℕ) → a ≤ b → cond z a 0 ≤ cond z b 0
      in_order true a b h = h
      in_order false a b h = omega arith

      near_run : Runs c (started_phase (most v) up) (unit * gap) val
      near_run =
          record {
            below = λ i l. rw (r.start i l, decided_same (v i) (d i l))
                (omega (arith, in_order (most v i) (lo i) (up i) (ordered_ends c (until_of (u - suc t) v w) i (lo i) (up i) l (later i l))));
            near = λ i l. rw (r.start i l) (omega (arith, apart i l));
            next = λ k i l. r.next k i l ∙ ap (λ (z : Bool). settled false (not z) (moved c (val k) i / top_rate c)) (decided_same (v i) (d i l));
          }

      near_high : HighEnds (summed_lower c (suc t) val s) (near_end c (suc t) gap val s)
      unfolding load depth
      near_high =
          let p : PhaseEnds c (started_phase (most v) up) (top_rate c * suc t) rate_hundredths (unit * gap) s (summed_lower c (suc t) val s) (near_end c (suc t) gap val s)
          = phase_ends (top_rate c * suc t) rate_hundredths moving (omega arith) c (started_phase (most v) up) rate (omega arith)
          (λ i l. started_small (most v i) (up i) (later i l).upper_range) near_run s in_range small in
          record {
            under = summed_lower c (suc t) val s;
            below = p.below;
            above = p.above;
            near = omega (arith, p.near);
            narrow = λ i j. omega (arith, p.near);
            range = omega arith;
          }

      pub near_pairs : (v s ≡ No → ⊥) → EndsAt c (between_of (suc t) u v w) s (summed_lower c (suc t) val s) (near_end c (suc t) gap val s)
      near_pairs = pairs (near_end c (suc t) gap val s) near_high

    -- any two starts: a run of its own
    module _ (high : ℕ → ℕ → ℕ) (r' : StartedRounds c (most v) up high) where
      high_ends : StartedEnds (most v) up (summed_lower c (suc t) high s) (summed_upper c (suc t) high s)
      high_ends = started_ends (most v) up (λ i l. (later i l).upper_range) high r'

      -- with nothing undecided the two starts differ by what the later phase's ends do
      starts_apart : AllDecided c v → AllDecided c w → StartsNear c (started_phase (most v) up) (started_phase (least v) lo) (until_slack c (u - suc t))
      starts_apart d e =
          record {
            some = omega arith;
            some' = omega arith;
            ones = λ i. refl;
            ones' = λ i. refl;
            nils = λ i l. ap not (sym (decided_same (v i) (d i l)));
            starts = λ i l. rw (decided_same (v i) (d i l)) (apart (most v i) (up i) (lo i) (until_slack c (u - suc t)) ((later i l).width (d, e)));
          }
        where
          apart : (z : Bool) (a b e : ℕ) → a ≤ b + e → Below (frac (cond z a 0) billion) (plus (frac (cond z b 0) billion) (billionths e))
          apart true a b e h = omega arith
          apart false a b e h = omega arith

      narrow : AllDecided c v → AllDecided c w → summed_upper c (suc t) high s ≤ summed_lower c (suc t) val s + between_slack c (suc t) u
      unfolding load
      narrow d e =
          let m : ℕ = depth c (suc t) in
          let h : Below (started_quotient (most v) up m) (plus (started_quotient (least v) lo m) (billionths (until_slack c (u - suc t))))
          = quotients_near c rate (starts_apart d e) (top_rate c * suc t) rate_hundredths (omega arith) s m in_range in
          let i : Below (started_quotient (most v) up m) (billionths (summed_upper c (suc t) val s + until_slack c (u - suc t)))
          = above_end _ _ (summed_upper c (suc t) val s) (until_slack c (u - suc t)) _ (started_is (least v) lo m) h (low_ends.above m (omega arith))
          (omega arith) in
          let j : Below (billionths (summed_lower c (suc t) high s)) (billionths (summed_upper c (suc t) val s + until_slack c (u - suc t)))
          = below_trans (billionths (summed_lower c (suc t) high s)) (started_quotient (most v) up m) _ (started_is (most v) up m)
          (high_ends.below m (omega arith)) i in
          omega (arith, j, low_ends.near, high_ends.near)

      pub summed_pairs : (v s ≡ No → ⊥) → EndsAt c (between_of (suc t) u v w) s (summed_lower c (suc t) val s) (summed_upper c (suc t) high s)
      summed_pairs =
          pairs (summed_upper c (suc t) high s)
          (record {
            under = summed_lower c (suc t) high s;
            below = high_ends.below;
            above = high_ends.above;
            near = omega (arith, high_ends.near);
            narrow = narrow;
            range = omega arith;
          })
