-- Until is the phase that starts from the ends that its second operand's verdicts stand for. Assumes nothing.
use mathlib.Core.Path.{◌≡◌, refl, sym, ◌∙◌}
use mathlib.Core.Bool.{Bool, true, false, cond}
use mathlib.Core.List.{List}
use Prim.Native.Nat.{ℕ, ◌*◌, ◌<◌}
use native.Mathlib.Omega.{arith}
use lib.Dec.{leb, eqb}
use lib.ListN.{length}
use Rattle.csl.specs.Limits.{billion}
use Rattle.csl.specs.Phase.{bit}
use Rattle.csl.specs.Report as report
use Rattle.csl.specs.Verdicts.{Verdict, No, Yes, Undecided, as_no, as_yes}
use Rattle.csl.proofs.Laws.Verdicts.{decided_same}
use Rattle.bounds.specs.StepValues.{most_gap, pointed}
use Rattle.phase.specs.Load.{load_depth}
use Rattle.phase.specs.Value.{held_of, start_of, value_of}
use Rattle.phase.specs.Bound.{run_cong}
use Rattle.until.specs.Reading.{verdicts, read_as, read_phase, low_phase, high_phase, end_of}
use Rattle.until.specs.Asked.{Still, start_gap, end_by, phase_end, Phased, UntilAsked, Until}
use Rattle.until.proofs.GapLaw.{first_decided, second_decided, near_none}
use Rattle.until.proofs.FromLaw.{end_from, near_same, by_load}

-- the ends that a verdict stands for
lower_bit : (w : Verdict) → report.lower_of w ≡ billion * bit (as_no w)
lower_bit No = refl
lower_bit Yes = refl
lower_bit Undecided = refl

upper_bit : (w : Verdict) → report.upper_of w ≡ billion * bit (as_yes w)
upper_bit No = refl
upper_bit Yes = refl
upper_bit Undecided = refl

-- they are as the rules would have them
bit_left : (b : Bool) (v w : Verdict) → billion * bit (read_as b w) ≡ pointed v w (billion * bit (read_as b w))
bit_left true v Yes = refl
bit_left false v Yes = refl
bit_left true No No = refl
bit_left false No No = refl
bit_left b Yes No = refl
bit_left b Undecided No = refl
bit_left b v Undecided = refl

module _ {mv l first second : List ℕ} {n q t : ℕ} (p : UntilAsked mv l first second n q t) where
  module _ {x : List ℕ} (s : Still second n l x) where
    end_is : (b : Bool) (g : ℕ) → g < n → end_of b x n g ≡ billion * bit (read_as b (verdicts second g))
    end_is true g h = s.uppers g h ∙ upper_bit (verdicts second g)
    end_is false g h = s.lowers g h ∙ lower_bit (verdicts second g)

    -- one end of the phase is until's
    until_end : (b : Bool) (g : ℕ) → g < n
        → phase_end mv first second x n q (q * t) b g
        ≡ pointed (verdicts first g) (verdicts second g)
        (cond (eqb (q * t) 0) (billion * bit (read_as b (verdicts second g)))
        (end_by b (q * t) (load_depth (q * t)) (start_gap x first second n) (λ k. value_of mv (length mv) q (low_phase first second) k g)
        (λ k. value_of mv (length mv) q (high_phase first second) k g)))
    until_end b g h =
        by_load (eqb (q * t) 0) (pointed (verdicts first g) (verdicts second g)) (end_is b g h ∙ bit_left b (verdicts first g) (verdicts second g))
        (end_from mv first second x n q (q * t) (load_depth (q * t)) (start_gap x first second n) p.prepared.rates.lines.targets
        (λ c. start_of (read_phase c first second)) (λ c. held_of (read_phase c first second)) refl (λ c i k. omega (arith, end_is c i k)) (λ c i k. refl)
        b g h)

    -- starts that are near are the same
    module _ (e : leb (start_gap x first second n) most_gap ≡ true) where
      first_same : (i : ℕ) → i < n → as_no (verdicts first i) ≡ as_yes (verdicts first i)
      first_same i h = decided_same (verdicts first i) (first_decided x first second n e i h)

      second_same : (i : ℕ) → i < n → as_no (verdicts second i) ≡ as_yes (verdicts second i)
      second_same i h = decided_same (verdicts second i) (second_decided x first second n e i h)

      no_gap : start_gap x first second n ≡ 0
      no_gap = near_none x first second n e (λ i h. end_is false i h ∙ rw (second_same i h) (sym (end_is true i h)))

      values_same : (k g : ℕ) → g < n → value_of mv (length mv) q (low_phase first second) k g ≡ value_of mv (length mv) q (high_phase first second) k g
      values_same =
          run_cong mv (length mv) n q p.prepared.rates.lines.targets _ _ _ _ (λ i h. rw (second_same i h) refl)
          (λ i h. rw (first_same i h, second_same i h) refl)

    pub is_until : {y : List ℕ} {r : ℕ} → Phased mv first second n q t x y r → Until mv first second n q t l y r
    is_until u =
        record {
          deep = u.deep;
          ends = record {
            same = u.ends.same ∙ s.same;
            lowers = λ g h. u.ends.lowers g h ∙ until_end false g h;
            uppers = λ g h. u.ends.uppers g h ∙ until_end true g h
                ∙ rw (near_same (q * t) (load_depth (q * t)) (start_gap x first second n) _ _ (λ e. (no_gap e, λ k. values_same e k g h))) refl;
            after = λ k h. u.ends.after k h ∙ s.after k h;
          };
        }
