-- The ends that a phase gives are those of any runs that start and hold alike. Assumes nothing.
use mathlib.Core.Path.{◌≡◌, refl, ap}
use mathlib.Core.Bool.{Bool, true, false, cond}
use mathlib.Core.List.{List}
use Prim.Native.Nat.{ℕ, ◌*◌, ◌-◌, ◌/◌, ◌<◌}
use lib.Dec.{leb}
use lib.ListN.{length}
use Rattle.csl.specs.Limits.{billion, rate_hundredths}
use Rattle.bounds.specs.Unit.{unit}
use Rattle.bounds.proofs.Ends.{end_same}
use Rattle.bounds.specs.Upper.{upper_end}
use Rattle.bounds.proofs.Upper.{left_same}
use Rattle.bounds.specs.StepValues.{most_gap, near_upper, pointed}
use Rattle.rate_matrix.specs.Words.{to_of}
use Rattle.phase.specs.Value.{held_of, run_of}
use Rattle.phase.specs.Bound.{run_cong}
use Rattle.until.specs.Reading.{verdicts, read_phase, end_of}
use Rattle.until.specs.Asked.{start_gap, end_by, summed_end}

upper_same : (a depth e : ℕ) (v u : ℕ → ℕ) → ((k : ℕ) → v k ≡ u k)
    → upper_end a rate_hundredths (a / rate_hundredths) depth e v ≡ upper_end a rate_hundredths (a / rate_hundredths) depth e u
upper_same a depth e v u h = ap (λ (x : ℕ). billion - x) (left_same a rate_hundredths (a / rate_hundredths) depth e v u (λ k d. h k))

end_by_lem : (b : Bool) (a depth gap : ℕ) (v u v' u' : ℕ → ℕ) → ((k : ℕ) → v k ≡ v' k) → ((k : ℕ) → u k ≡ u' k)
    → end_by b a depth gap v u ≡ end_by b a depth gap v' u'
end_by_lem true a depth gap v u v' u' e f = rw (upper_same a depth (unit * gap) v v' e, upper_same a depth 0 u u' f) refl
end_by_lem false a depth gap v u v' u' e f = end_same a rate_hundredths (a / rate_hundredths) depth v v' (λ k h. e k)

pub end_from : (mv first second l : List ℕ) (n q a depth gap : ℕ) → ((j : ℕ) → j < length mv → to_of mv j < n)
    → (start : Bool → ℕ → ℕ) (held : Bool → ℕ → Bool) → start_gap l first second n ≡ gap
    → ((b : Bool) (g : ℕ) → g < n → unit * end_of b l n g ≡ start b g)
    → ((b : Bool) (g : ℕ) → g < n → held_of (read_phase b first second) g ≡ held b g) → (b : Bool) (s : ℕ) → s < n
    → summed_end mv first second l n q a depth b s
    ≡ pointed (verdicts first s) (verdicts second s)
    (end_by b a depth gap (λ k. run_of mv (length mv) q (start false) (held false) k s) (λ k. run_of mv (length mv) q (start true) (held true) k s))
end_from mv first second l n q a depth gap targets start held i e f b s h =
    rw i
    (ap (pointed (verdicts first s) (verdicts second s))
    (end_by_lem b a depth gap _ _ _ _ (λ k. run_cong mv (length mv) n q targets _ (start false) _ (held false) (e false) (f false) k s h)
    (λ k. run_cong mv (length mv) n q targets _ (start true) _ (held true) (e true) (f true) k s h)))

-- where near starts have no gap and the same values, the upper end is that of the upper start
pub near_same : (a depth gap : ℕ) (low high : ℕ → ℕ) → (leb gap most_gap ≡ true → (gap ≡ 0) × ((k : ℕ) → low k ≡ high k))
    → near_upper a rate_hundredths depth gap low high ≡ upper_end a rate_hundredths (a / rate_hundredths) depth 0 high
near_same a depth gap low high e = by (leb gap most_gap) refl
  where
    by : (b : Bool) → leb gap most_gap ≡ b
        → cond b (upper_end a rate_hundredths (a / rate_hundredths) depth (unit * gap) low) (upper_end a rate_hundredths (a / rate_hundredths) depth 0 high)
        ≡ upper_end a rate_hundredths (a / rate_hundredths) depth 0 high
    by true i = rw (e i).0 (upper_same a depth 0 low high (e i).1)
    by false i = refl

-- one of two ends, by whether the load is 0
pub by_load : (z : Bool) (f : ℕ → ℕ) {x y u w : ℕ} → x ≡ f u → y ≡ f w → cond z x y ≡ f (cond z u w)
by_load true f e i = e
by_load false f e i = i
