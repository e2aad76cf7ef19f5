-- The phase before an until starts from the until's ends, where its first operand holds. Assumes nothing.
use mathlib.Core.Path.{◌≡◌, refl, ap, ◌∙◌}
use mathlib.Core.Bool.{Bool, true, false, cond, not, ◌||◌, and-true}
use mathlib.Core.List.{List}
use Prim.Native.Nat.{ℕ, ◌+◌, ◌*◌, ◌<◌}
use lib.Dec.{eqb}
use Rattle.csl.specs.Verdicts.{No}
use Rattle.csl.specs.Laws.Decided.{all_decided}
use Rattle.csl.proofs.Laws.Decided.{decided_all}
use Rattle.bounds.specs.Unit.{unit}
use Rattle.bounds.specs.StepValues.{pointed, started_phase, earlier_gap}
use Rattle.bounds.proofs.StepValues.{verdict_at}
use Rattle.vectors.specs.Places.{at}
use Rattle.phase.specs.Load.{load_depth}
use Rattle.phase.specs.Value.{held_of}
use Rattle.until.specs.Reading.{verdicts, read_as, end_of}
use Rattle.until.specs.Asked.{Restricted, start_gap, end_by, phase_end, Phased, EarlierAsked, started_value, Earlier}
use Rattle.until.proofs.GapLaw.{gap_same}
use Rattle.until.proofs.FromLaw.{end_from, by_load}

-- where a state is no goal, its value is held where the first operand fails
held_first : (b x : Bool) → (read_as b No || not (x || read_as b No)) ≡ not x
held_first true true = refl
held_first true false = refl
held_first false true = refl
held_first false false = refl

module _ {mv l first none : List ℕ} {n q t : ℕ} (p : EarlierAsked mv l first none n q t) where
  none_is : (g : ℕ) → g < n → verdicts none g ≡ No
  none_is g h = ap verdict_at (p.no_goal g h)

  module _ {x : List ℕ} (s : Restricted first n l x) where
    end_is : (b : Bool) (g : ℕ) → g < n → end_of b x n g ≡ cond (read_as b (verdicts first g)) (end_of b l n g) 0
    end_is true g h = s.uppers g h
    end_is false g h = s.lowers g h

    -- a row without a goal is decided
    gap_is : start_gap x first none n ≡ earlier_gap n (verdicts first) (at l) (λ i. at l (n + i))
    gap_is =
        gap_same _ _ _ _ _ _ n
        (rw (decided_all n (verdicts none) (λ i h. rw (none_is i h) tt), and-true (all_decided n (verdicts first))) refl)
        (end_is false) (end_is true)

    -- one end of the phase is that of the phase that starts from the until's
    earlier_end : (b : Bool) (g : ℕ) → g < n
        → phase_end mv first none x n q (q * t) b g
        ≡ cond (eqb (q * t) 0) (cond (read_as b (verdicts first g)) (end_of b l n g) 0)
        (pointed (verdicts first g) No
        (end_by b (q * t) (load_depth (q * t)) (earlier_gap n (verdicts first) (at l) (λ i. at l (n + i)))
        (λ k. started_value mv q (λ i. read_as false (verdicts first i)) (at l) k g)
        (λ k. started_value mv q (λ i. read_as true (verdicts first i)) (λ i. at l (n + i)) k g)))
    earlier_end b g h =
        by_load (eqb (q * t) 0) (λ z. z) (end_is b g h)
        (end_from mv first none x n q (q * t) (load_depth (q * t)) _ p.prepared.rates.lines.targets
        (λ c i. unit * cond (read_as c (verdicts first i)) (end_of c l n i) 0)
        (λ c. held_of (started_phase (λ i. read_as c (verdicts first i)) (end_of c l n))) gap_is (λ c i k. ap (λ (z : ℕ). unit * z) (end_is c i k))
        (λ c i k. rw (none_is i k) (held_first c (read_as c (verdicts first i)))) b g h
        ∙ rw (none_is g h) refl)

    pub is_earlier : {y : List ℕ} {r : ℕ} → Phased mv first none n q t x y r → Earlier mv first n q t l y r
    is_earlier u =
        record {
          deep = u.deep;
          ends = record {
            same = u.ends.same ∙ s.same;
            lowers = λ g h. u.ends.lowers g h ∙ earlier_end false g h;
            uppers = λ g h. u.ends.uppers g h ∙ earlier_end true g h;
            after = λ k h. u.ends.after k h ∙ s.after k h;
          };
        }
