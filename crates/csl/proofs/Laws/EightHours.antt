-- `U 8 up dead` on the small sheet: the quotients from D = 42 on lie from 3,992,010 to 3,992,011 billionths. Assumes nothing.
use Rattle.std.specs.Prelude.{◌≡◌, refl, Bool, ℕ, ◌+◌, ◌*◌, ◌-◌, ◌≤◌, ◌<◌}
use Rattle.std.proofs.Common.{◌∙◌, arith, lt_of_mul-lt-mul_right, le_of_lt, lit<}
use Rattle.csl.specs.Text.{bytes}
use Rattle.csl.specs.Formula.{chance, until, until_of, AtMost}
use Rattle.csl.specs.Fraction.{Fraction, IsFraction, Below, times, over, plus, sum_up, billionths}
use Rattle.csl.specs.Chain.{Chain, load, depth}
use Rattle.csl.specs.Phase.{step_value, quotient, weight}
use Rattle.csl.specs.Verdicts.{Verdict, Yes, judged, Sides}
use Rattle.csl.specs.Until.{until_phase, until_quotient}
use Rattle.csl.specs.Ends.{EndsAt}
use Rattle.csl.specs.Report.{Reported}
use Rattle.csl.specs.Refusal.{job_chain}
use Rattle.csl.specs.Bench.{small, up, dead, eight, EightHours}
use Rattle.csl.proofs.Laws.Computing.{computing}
use Rattle.csl.proofs.Laws.Fraction.{below_trans}
use Rattle.csl.proofs.Laws.Steps.{step_le, divisor_some}
use Rattle.csl.proofs.Laws.Quotient.{until_starts}
use Rattle.csl.proofs.Laws.Readings.{marks_decided, low_marks, high_marks}
use Rattle.csl.proofs.Laws.Tail.{Light, light_from, later}
use Rattle.csl.proofs.Laws.Left.{left_of, left_above}
use Rattle.csl.proofs.Laws.Ruled.{between}
use Rattle.csl.proofs.Laws.Sides.{judged_sides, one_verdict}

abbrev pub sheet : Chain
sheet = job_chain (small "P <= 10000000 U 8 up dead\n")

abbrev pub is_up : ℕ → Bool
is_up = sheet.mark (bytes "up")

abbrev pub is_dead : ℕ → Bool
is_dead = sheet.mark (bytes "dead")

-- the quotient at D
abbrev pub at_depth : Fraction
at_depth = until_quotient sheet eight is_up is_dead 0 42

pub under_end : at_depth.top * 1000000000 < 3992011 * at_depth.bottom
unfolding computing
under_end = lit< tt

pub over_end : 3992010 * at_depth.bottom < at_depth.top * 1000000000
unfolding computing
over_end = lit< tt

-- what is summed to D, over all weights to D and the last once more: at most every later quotient
abbrev pub summed : (ℕ → Fraction) → Fraction
summed v = over (sum_up (λ k. times (weight (load sheet eight) k) (v k)) 42) (plus (sum_up (weight (load sheet eight)) 42) (weight (load sheet eight) 42))

-- the step values of state 0; what is summed of them, and of what they leave of 1
abbrev pub values : ℕ → Fraction
values = step_value sheet (until_phase is_up is_dead) 0

abbrev pub kept : Fraction
kept = summed values

abbrev pub missed : Fraction
missed = summed (left_of values)

kept_least : 3992010 * kept.bottom < kept.top * 1000000000
unfolding computing
kept_least = lit< tt

missed_least : 996007989 * missed.bottom < missed.top * 1000000000
unfolding computing
missed_least = lit< tt

pub depth_is : depth sheet eight ≡ 42
unfolding computing
depth_is = refl

-- so from D on: the quotients are at least 3,992,010 billionths, and leave at least 996,007,989
load_is : IsFraction (load sheet eight)
unfolding load
load_is = omega arith

light : Light (load sheet eight) 42
light = light_from sheet eight 42 (omega (arith, depth_is))

from_depth : (v : ℕ → Fraction) (a : ℕ) → ((k : ℕ) → IsFraction (v k)) → 0 < (summed v).bottom → a * (summed v).bottom < (summed v).top * 1000000000
    → (n : ℕ) → 42 ≤ n → Below (billionths a) (quotient (load sheet eight) v n)
from_depth v a are is h n l =
    let e : 42 + (n - 42) ≡ n = omega arith in
    let k : Below (billionths a) (quotient (load sheet eight) v (42 + (n - 42)))
    = below_trans (billionths a) (summed v) _ is (le_of_lt h) (later (load sheet eight) load_is 42 light v are (n - 42)) in
    rw e at k

values_are : (k : ℕ) → IsFraction (values k)
values_are = divisor_some sheet 1 (omega arith)

kept_is : 0 < kept.bottom
unfolding computing
kept_is = lit< tt

missed_is : 0 < missed.bottom
unfolding computing
missed_is = lit< tt

pub two_states : sheet.states ≡ 2
unfolding computing
two_states = refl

pub at_least : (n : ℕ) → 42 ≤ n → Below (billionths 3992010) (until_quotient sheet eight is_up is_dead 0 n)
at_least = from_depth values 3992010 values_are kept_is kept_least

pub at_most : (n : ℕ) → 42 ≤ n → Below (until_quotient sheet eight is_up is_dead 0 n) (billionths 3992011)
at_most n l =
    left_above (load sheet eight) values
    (λ k. step_le sheet (until_phase is_up is_dead) (until_starts sheet is_up is_dead) k 0 (omega (arith, two_states))) n 996007989 3992011 (omega arith)
    (from_depth (left_of values) 996007989 values_are missed_is missed_least n l)

-- every report of `P <= 10000000 U 8 up dead`
end_under : (x : Fraction) (a m : ℕ) → Below (billionths a) x → x.top * 1000000000 < m * x.bottom → a < m
end_under x a m h k = lt_of_mul-lt-mul_right x.bottom (omega arith)

end_over : (x : Fraction) (a m : ℕ) → Below x (billionths a) → m * x.bottom < x.top * 1000000000 → m < a
end_over x a m h k = lt_of_mul-lt-mul_right x.bottom (omega arith)

yes_below : (p lower upper : ℕ) → upper ≤ p → lower ≤ upper → judged AtMost p lower upper ≡ Yes
unfolding Sides
yes_below p lower upper h k = one_verdict p lower upper k AtMost _ Yes (judged_sides p lower upper k AtMost) (λ x a b. omega arith)

pub eight_hours : (lower upper : ℕ → ℕ) (v : ℕ → Verdict) → Reported sheet (chance AtMost 10000000 (until eight up dead)) lower upper v
    → EightHours lower upper v
eight_hours lower upper v k =
    let here : 0 < sheet.states = omega (arith, two_states) in
    let e : EndsAt sheet (until_of eight k.first k.second) 0 (lower 0) (upper 0) = k.keeps.ends 0 here in
    let same_low = low_marks sheet eight _ _ is_up is_dead k.first_backed k.second_backed 0 42 here in
    let same-high = high_marks sheet eight _ _ is_up is_dead k.first_backed k.second_backed 0 42 here in
    let low : lower 0 < 3992011
    = end_under at_depth (lower 0) 3992011 (rw (same_low.0, same_low.1) at (e.lower_side 42 (omega (arith, depth_is)))) under_end in
    let high : 3992010 < upper 0
    = end_over at_depth (upper 0) 3992010 (rw (same-high.0, same-high.1) at (e.upper_side 42 (omega (arith, depth_is)))) over_end in
    let narrow : upper 0 ≤ lower 0 + 168
    = omega (arith, depth_is, e.width (marks_decided sheet _ is_up k.first_backed, marks_decided sheet _ is_dead k.second_backed)) in
    record {
      low = omega arith;
      high = omega arith;
      narrow = narrow;
      verdict = (k.keeps.verdict 0 here).elsewhere (λ d. between 10000000 (omega arith) (omega arith)) ∙ yes_below 10000000 (lower 0) (upper 0) (omega arith) (omega arith);
    }
