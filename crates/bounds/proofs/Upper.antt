-- The upper end of a phase, from what its lower values gather: they lack at most e at step 0 and a unit more for each step, so what they
-- leave of 1, less that, lies below what the exact ones leave. Assumes nothing.
use Rattle.std.specs.Prelude.{◌≡◌, refl, ℕ, zero, suc, ◌+◌, ◌*◌, ◌-◌, ◌≤◌, ◌<◌}
use Rattle.std.proofs.Common.{arith, le-div_iff_mul-le}
use Rattle.numbers.specs.Hint.{le_times, div_low}
use Rattle.csl.specs.Chain.{sum_to}
use Rattle.bounds.specs.Weight.{low}
use Rattle.bounds.specs.Unit.{one, scale, grain, part}
use Rattle.bounds.specs.Ends.{total, last_step, gathered, lower_end}
use Rattle.bounds.proofs.Ends.{total_peak, gathered_most, gathered_same}
use Rattle.bounds.specs.Upper.{gatherable, left_end, remaining}

pub gatherable_most : (a b m d e : ℕ) → gatherable a b m (last_step a b m d) e * grain ≤ total a b m d * one
unfolding gatherable gathered
gatherable_most a b m d e = omega (arith, gathered_most a b m d (λ k. one - (e + k)) (λ k h. omega arith))

-- values that are the same through step d have one upper end
pub left_same : (a b m d e : ℕ) (v u : ℕ → ℕ) → ((k : ℕ) → k < suc d → v k ≡ u k) → left_end a b m d e v ≡ left_end a b m d e u
unfolding left_end
left_same a b m d e v u h = rw (gathered_same a b m d v u h) refl

-- one term of two values that together are at least o
part_split : (w v u o : ℕ) → o ≤ v + u → part w o ≤ part w v + part w u + 1
part_split w v u o h = omega (arith, le_times w h)

parts_split : (w v u o : ℕ → ℕ) (n : ℕ) → ((k : ℕ) → o k ≤ v k + u k)
    → sum_to (λ k. part (w k) (o k)) n ≤ sum_to (λ k. part (w k) (v k)) n + sum_to (λ k. part (w k) (u k)) n + n
unfolding sum_to
parts_split w v u o zero h = omega arith
parts_split w v u o (suc n) h = omega (arith, parts_split w v u o n h, part_split (w n) (v n) (u n) (o n) (h n))

-- what is left to be gathered is at most what the values that remain gather
left_gathered : (a b m l e : ℕ) (v : ℕ → ℕ) → gatherable a b m l e - gathered a b m l v ≤ gathered a b m l (λ k. remaining e k (v k))
unfolding gatherable gathered
left_gathered a b m l e v =
    omega (arith, parts_split (low a b m) v (λ k. remaining e k (v k)) (λ k. one - (e + k)) (suc l) (λ k. omega arith))

-- so its end is at most theirs
pub left_lower : (a b m d e : ℕ) (v : ℕ → ℕ) → m ≤ d → left_end a b m d e v ≤ lower_end a b m d (λ k. remaining e k (v k))
unfolding left_end lower_end
left_lower a b m d e v h =
    (le-div_iff_mul-le {k = total a b m d} (omega (arith, total_peak a b m d h))).1
    (omega (
      arith,
      div_low ((gatherable a b m (last_step a b m d) e - gathered a b m (last_step a b m d) v) * scale) (total a b m d),
      left_gathered a b m (last_step a b m d) e v,
    ))
