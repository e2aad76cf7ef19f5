-- The bench values of until between two times hold. Assumes nothing.
use Rattle.std.specs.Prelude.{◌≡◌, refl, Bool, true, false, ◌&&◌, ℕ, suc, ◌*◌, ◌<◌}
use Rattle.std.proofs.Common.{◌∙◌, arith}
use Rattle.csl.specs.Text.{bytes}
use Rattle.csl.specs.Limits.{billion}
use Rattle.csl.specs.Formula.{Formula, always, label, chance, between, Comparison, AtLeast}
use Rattle.csl.specs.Chain.{Chain, top_rate}
use Rattle.csl.specs.Phase.{bit}
use Rattle.csl.specs.Verdicts.{Verdict, No, Yes, marked, judged}
use Rattle.csl.specs.Report.{Reported}
use Rattle.csl.specs.Refusal.{job_chain}
use Rattle.csl.specs.Bench.{still, up, eight, Prints, NotBeforeAnHour}
use Rattle.csl.proofs.Laws.Computing.{computing}
use Rattle.csl.proofs.Laws.Verdicts.{as_no_mark, as_yes_mark}
use Rattle.csl.proofs.Laws.BetweenEnds.{still_pair_lower, still_pair_upper}
use Rattle.csl.proofs.Laws.Bench.{Row, two_rows}

-- with q = 0, over operands of which these verdicts are the marks: 1 where both hold, else 0
module _ (c : Chain) (r : Comparison) (p t u : ℕ) (f g : Formula) (lower upper : ℕ → ℕ) (v : ℕ → Verdict) (z : top_rate c ≡ 0)
    (k : Reported c (chance r p (between (suc t) u f g)) lower upper v) (s : ℕ) (l : s < c.states) (a b : Bool)
    (e : k.first s ≡ marked a) (h : k.second s ≡ marked b) where
  still_pair_row : Row lower upper v s (billion * bit (a && b)) (billion * bit (a && b)) (judged r p (billion * bit (a && b)) (billion * bit (a && b)))
  still_pair_row =
      let low : lower s ≡ billion * bit (a && b)
      = still_pair_lower c t u k.first k.second s l (lower s) (upper s) z (k.keeps.ends s l) ∙ rw (e, h, as_no_mark a, as_no_mark b) refl in
      let high : upper s ≡ billion * bit (a && b)
      = still_pair_upper c t u k.first k.second s l (lower s) (upper s) z (k.keeps.ends s l) ∙ rw (e, h, as_yes_mark a, as_yes_mark b) refl in
      record { lower_is = low; upper_is = high; verdict_is = k.keeps.verdict s l ∙ rw (low, high) }

no_moves_prints : Prints (still "P >= 5 V 1 8 tt dead\n")
    "0,0,0,80,no\n1,1000000000,1000000000,80,yes\n" "1,1000000000,1000000000,80,yes\n0,0,0,80,no\n"
unfolding computing
no_moves_prints lower upper v k =
    let row = still_pair_row (job_chain (still "P >= 5 V 1 8 tt dead\n")) AtLeast 5 99 eight always (label (bytes "dead")) lower upper v refl k in
    two_rows lower upper v 80 0 0 No billion billion Yes (row 0 (omega arith) true false (k.first_backed 0 (omega arith)) (k.second_backed 0 (omega arith)))
    (row 1 (omega arith) true true (k.first_backed 1 (omega arith)) (k.second_backed 1 (omega arith)))

first_fails_prints : Prints (still "P >= 5 V 1 8 up dead\n") "0,0,0,80,no\n1,0,0,80,no\n" "0,0,0,80,no\n1,0,0,80,no\n"
unfolding computing
first_fails_prints lower upper v k =
    let row = still_pair_row (job_chain (still "P >= 5 V 1 8 up dead\n")) AtLeast 5 99 eight up (label (bytes "dead")) lower upper v refl k in
    two_rows lower upper v 80 0 0 No 0 0 No (row 0 (omega arith) true false (k.first_backed 0 (omega arith)) (k.second_backed 0 (omega arith)))
    (row 1 (omega arith) false true (k.first_backed 1 (omega arith)) (k.second_backed 1 (omega arith)))

pub not_before_an_hour : NotBeforeAnHour
unfolding computing
not_before_an_hour =
    record {
      two_phases_lem = refl;
      quarters = refl;
      within_until = refl;
      around_until = refl;
      one_time = refl;
      one_operand = refl;
      first_time_0 = refl;
      over_load_from_0 = refl;
      equal_times = refl;
      first_time_over = refl;
      second_time_over = refl;
      first_exceeds_second = refl;
      before_14 = refl;
      full_loads = refl;
      earlier_over_load = refl;
      later_over_load = refl;
      no_moves = refl;
      no_moves_printed = no_moves_prints;
      first_operand_fails = first_fails_prints;
    }
