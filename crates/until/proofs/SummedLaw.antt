-- Weights, both ends and zeros, one after the other. Assumes nothing.
use mathlib.Core.Path.{◌≡◌, refl, ap, sym, ◌∙◌}
use mathlib.Core.Bool.{Bool, true, false}
use mathlib.Core.List.{List}
use Prim.Native.Nat.{ℕ, ◌+◌, ◌*◌, ◌/◌, ◌^◌, ◌≤◌, ◌<◌}
use native.Mathlib.Omega.{arith}
use lib.Dec.{ltb}
use borrow.Author.Tests.{ltb-true, ltb-false}
use Rattle.csl.specs.Limits.{rate_hundredths}
use Rattle.numbers.specs.Hint.{mul_bound}
use Rattle.bounds.specs.Unit.{unit}
use Rattle.bounds.specs.Weight.{peak, low, Middle, low_most}
use Rattle.bounds.specs.Last.{last_from, last_same}
use Rattle.bounds.specs.Ends.{total, negligible, last_step, lower_end}
use Rattle.bounds.proofs.Ends.{last_step_within, gathered_most, total_most, total_peak}
use Rattle.bounds.specs.Upper.{left_end}
use Rattle.weights.specs.Asked.{most_steps}
use Rattle.vectors.specs.Places.{at, weights_from, weight_at, total_in}
use Rattle.vectors.specs.Prepared.{rates_kept, Cleared}
use Rattle.phase.specs.Value.{held_of}
use Rattle.phase.specs.Load.{Weighed, LightAsked}
use Rattle.phase.specs.Sums.{sum_gathered, whole_gatherable}
use Rattle.until.specs.Reading.{read_phase, end_of, value_from}
use Rattle.until.specs.Asked.{start_gap, BothAsked, Both, SummedAsked, summed_end, Summed}
use Rattle.until.proofs.GapLaw.{gap_same}
use Rattle.until.proofs.FromLaw.{end_from}

module _ {mv l first second : List ℕ} {n q a depth : ℕ} (p : SummedAsked mv l first second n q a depth) where
  middle : Middle a rate_hundredths (a / rate_hundredths)
  middle = record { some = p.weigh.some; unit = omega arith; reached = omega arith; last = omega arith }

  deep : a / rate_hundredths ≤ depth
  deep = omega (arith, p.weigh.deep)

  limit : depth < most_steps
  limit = omega (arith, p.weigh.deep, p.weigh.load.most)

  total_small : total a rate_hundredths (a / rate_hundredths) depth < 2 ^ 52
  total_small =
      let y : depth + 2 ≤ 1026 = omega (arith, limit) in
      let z : peak + depth ≤ peak + 1024 = omega (arith, limit) in
      omega (arith, total_most a rate_hundredths (a / rate_hundredths) depth middle deep, mul_bound y z)

  module _ {w : List ℕ} (u : Weighed n a depth l w) where
    light : (k : ℕ) → k ≤ depth → weight_at w n k ≤ peak
    light k h = rw (u.weights k h) (low_most middle k)

    end_was : (b : Bool) (s : ℕ) → s < n → end_of b w n s ≡ end_of b l n s
    end_was true s h = u.before (n + s) (omega arith)
    end_was false s h = u.before s (omega arith)

    pub may_look : LightAsked w n depth
    may_look =
        record {
          states = p.weigh.states;
          long = omega (arith, u.same, p.weigh.long);
          limit = limit;
          room = omega (arith, p.weigh.load.room, p.weigh.deep);
          weights = light;
        }

    module _ {last : ℕ} (z : last ≡ last_from (weight_at w n) (total_in w n / negligible) depth 0) where
      made : last ≡ last_step a rate_hundredths (a / rate_hundredths) depth
      unfolding last_step
      made =
          z
          ∙ ap (λ (t : ℕ). last_from (weight_at w n) (t / negligible) depth 0) u.total
          ∙ last_same (weight_at w n) (low a rate_hundredths (a / rate_hundredths)) (total a rate_hundredths (a / rate_hundredths) depth / negligible) depth u.weights depth 0
          (omega arith)

      within : last ≤ depth
      within = rw made (last_step_within a rate_hundredths (a / rate_hundredths) depth)

      through : (k : ℕ) → k ≤ last → weight_at w n k ≡ low a rate_hundredths (a / rate_hundredths) k
      through k h = u.weights k (omega (arith, within))

      pub may_both : BothAsked mv w first second n q last
      may_both =
          record {
            read = record {
              rates = rates_kept p.prepared.rates u.same (λ k c d. u.before k (omega arith));
              some = p.some;
              ends = record {
                states = p.ends.states;
                room = omega (arith, u.same, p.ends.room);
                in_first = p.ends.in_first;
                in_second = p.ends.in_second;
                small = λ b s h. rw (end_was b s h) (p.ends.small b s h);
              };
              limit = omega (arith, limit, within);
              room = omega (arith, p.weigh.load.room, p.weigh.deep, within);
              weights = λ k h. light k (omega (arith, within));
            };
            some = omega (arith, u.total, total_peak a rate_hundredths (a / rate_hundredths) depth deep);
            divisor = omega (arith, u.total, total_small);
            most = λ v h. rw (sum_gathered w n a last through v, u.total, made)
                (gathered_most a rate_hundredths (a / rate_hundredths) depth v (λ k c. h k));
          }

      module _ {x : List ℕ} (f : Both mv first second n q last w x) where
        module _ {y : List ℕ} (c : Cleared n x y) where
          -- every word behind the ends is as it was
          kept : (k : ℕ) → 2 * n ≤ k → at y k ≡ at l k
          kept k h = columns (ltb k (6 * n)) refl
            where
              marks : (t : Bool) → ltb k (9 * n + 512) ≡ t → weights_from n ≤ k → at y k ≡ at l k
              marks true e b =
                  c.clear.weights k b (ltb-true k (9 * n + 512) e) ∙ sym (p.prepared.clear.weights k b (ltb-true k (9 * n + 512) e))
              marks false e b =
                  let i : 9 * n + 512 ≤ k = ltb-false k (9 * n + 512) e in
                  c.beyond k i ∙ f.after k (omega arith) (omega arith) ∙ u.after k (omega (arith, p.weigh.load.room, p.weigh.deep)) (omega arith)

              rates : (t : Bool) → ltb k (weights_from n) ≡ t → 6 * n ≤ k → at y k ≡ at l k
              rates true e b =
                  let i : k < weights_from n = ltb-true k (weights_from n) e in
                  c.rates k b i ∙ f.after k b (omega arith) ∙ u.before k i
              rates false e b = marks (ltb k (9 * n + 512)) refl (ltb-false k (weights_from n) e)

              columns : (t : Bool) → ltb k (6 * n) ≡ t → at y k ≡ at l k
              columns true e = c.clear.columns k h (ltb-true k (6 * n) e) ∙ sym (p.prepared.clear.columns k h (ltb-true k (6 * n) e))
              columns false e = rates (ltb k (weights_from n)) refl (ltb-false k (6 * n) e)

          end_same : (b : Bool) (s : ℕ) → s < n → summed_end mv first second w n q a depth b s ≡ summed_end mv first second l n q a depth b s
          end_same =
              end_from mv first second w n q a depth (start_gap l first second n) p.prepared.rates.lines.targets (λ b g. unit * end_of b l n g)
              (λ b. held_of (read_phase b first second)) (gap_same _ _ _ _ _ _ n refl (end_was false) (end_was true))
              (λ b g h. ap (λ (x : ℕ). unit * x) (end_was b g h)) (λ b g h. refl)

          pub is_summed : Summed mv first second n q a depth l y
          unfolding lower_end left_end
          is_summed =
              record {
                same = c.same ∙ f.same ∙ u.same;
                lowers = λ s h. c.ends s (omega arith) ∙ f.lowers s h
                    ∙ rw (sum_gathered w n a last through (λ k. value_from mv first second w n q false k s), u.total, made)
                    (end_same false s h);
                uppers = λ s h. c.ends (n + s) (omega arith) ∙ f.uppers s h
                    ∙ rw (
                      sum_gathered w n a last through (λ k. value_from mv first second w n q false k s),
                      sum_gathered w n a last through (λ k. value_from mv first second w n q true k s),
                      whole_gatherable w n a last through (unit * start_gap w first second n),
                      whole_gatherable w n a last through 0,
                      u.total,
                      made,
                    )
                    (end_same true s h);
                after = kept;
              }

pub ruleset summed_laws = (may_look, may_both, is_summed)
