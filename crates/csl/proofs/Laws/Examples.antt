-- Two jobs over the small sheet that have a backing, written out: the rules for ends can be kept, with a `P` within a `P`, and with an
-- undecided state. Assumes nothing.
use Rattle.std.specs.Prelude.{◌≡◌, refl, Bool, true, false, cond, ℕ, zero, suc, ◌+◌, ◌*◌, ◌≤◌, ◌<◌}
use Rattle.std.proofs.Common.{◌∙◌, arith}
use Rattle.csl.specs.Limits.{billion}
use Rattle.csl.specs.Formula.{Formula, chance, until, until_of, Comparison, AtMost, AtLeast, More}
use Rattle.csl.specs.Fraction.{Below, billionths}
use Rattle.csl.specs.Chain.{top_rate, depth}
use Rattle.csl.specs.Verdicts.{Verdict, No, Yes, Undecided, marked, judged, least, most, Decided}
use Rattle.csl.specs.Until.{low_quotient, high_quotient, until_slack}
use Rattle.csl.specs.Graph.{Ruled}
use Rattle.csl.specs.Ends.{EndsAt}
use Rattle.csl.specs.Backing.{AtEach, NothingUndecided, NothingUndecidedIn}
use Rattle.csl.specs.Truth.{Obeys}
use Rattle.csl.specs.Report.{Reported, backing_of}
use Rattle.csl.specs.Bench.{up, dead, eight}
use Rattle.csl.proofs.Laws.Computing.{computing}
use Rattle.csl.proofs.Laws.Verdicts.{yes_or_no}
use Rattle.csl.proofs.Laws.Fraction.{wider, more_room}
use Rattle.csl.proofs.Laws.Readings.{low_marks, high_marks, below_same, same_below}
use Rattle.csl.proofs.Laws.PointQuotients.{until_one, until_nowhere}
use Rattle.csl.proofs.Laws.PointEnds.{ends_certain, ends_impossible}
use Rattle.csl.proofs.Laws.Settled.{verdicts_obey}
use Rattle.csl.proofs.Laws.EightHours.{sheet, is_up, is_dead, two_states, depth_is, at_least, at_most}

-- both states
at_two : (P : ℕ → Type 0) → P 0 → P 1 → (s : ℕ) → s < sheet.states → P s
at_two P h k zero l = h
at_two P h k (suc zero) l = k
at_two P h k (suc (suc s)) l = absurd (omega (arith, two_states))

-- the load is above 0
moving : top_rate sheet * eight ≡ 0 → ⊥
unfolding computing
moving e = omega arith

up_0 : marked (is_up 0) ≡ Yes
unfolding computing
up_0 = refl

up_1 : marked (is_up 1) ≡ No
unfolding computing
up_1 = refl

dead_0 : marked (is_dead 0) ≡ No
unfolding computing
dead_0 = refl

dead_1 : marked (is_dead 1) ≡ Yes
unfolding computing
dead_1 = refl

-- state 0 of `U 8 up dead`, also where the operands are other nodes with those verdicts: 3,992,010 to 3,992,011
module _ (v w : ℕ → Verdict) (h : AtEach sheet (λ s. v s ≡ marked (is_up s))) (k : AtEach sheet (λ s. w s ≡ marked (is_dead s))) where
  here : 0 < sheet.states
  here = omega (arith, two_states)

  low_least : (n : ℕ) → depth sheet eight ≤ n → Below (billionths 3992010) (low_quotient sheet eight v w 0 n)
  low_least n d = below_same _ _ _ (low_marks sheet eight v w is_up is_dead h k 0 n here) (at_least n (omega (arith, depth_is)))

  low_most : (n : ℕ) → depth sheet eight ≤ n → Below (low_quotient sheet eight v w 0 n) (billionths 3992011)
  low_most n d = same_below _ _ _ (low_marks sheet eight v w is_up is_dead h k 0 n here) (at_most n (omega (arith, depth_is)))

  high_least : (n : ℕ) → depth sheet eight ≤ n → Below (billionths 3992010) (high_quotient sheet eight v w 0 n)
  high_least n d = below_same _ _ _ (high_marks sheet eight v w is_up is_dead h k 0 n here) (at_least n (omega (arith, depth_is)))

  high_most : (n : ℕ) → depth sheet eight ≤ n → Below (high_quotient sheet eight v w 0 n) (billionths 3992011)
  high_most n d = same_below _ _ _ (high_marks sheet eight v w is_up is_dead h k 0 n here) (at_most n (omega (arith, depth_is)))

  first_yes : v 0 ≡ Yes
  first_yes = h 0 here ∙ up_0

  second_no : w 0 ≡ No
  second_no = k 0 here ∙ dead_0

  pub eight_hours_ends : EndsAt sheet (until_of eight v w) 0 3992010 3992011
  eight_hours_ends =
      record {
        lower_side = low_least;
        lower_near = λ n d. wider _ 3992011 (3992010 + until_slack sheet eight) (omega (arith, depth_is)) (low_most n d);
        upper_side = high_most;
        upper_near = λ n d. more_room _ 3992010 3992011 (until_slack sheet eight) (omega (arith, depth_is)) (high_least n d);
        width = λ i. omega (arith, depth_is);
        lower_range = omega arith;
        upper_range = omega arith;
        points = record {
          certain = λ e. yes_or_no e second_no;
          impossible = λ e f. yes_or_no first_yes e;
          lower_exact = λ z. absurd (moving z);
          upper_exact = λ z. absurd (moving z);
        };
      }

-- the ends of `U 8 up dead` at both states
abbrev pub lower8 : ℕ → ℕ
lower8 s = cond (is_dead s) billion 3992010

abbrev pub upper8 : ℕ → ℕ
upper8 s = cond (is_dead s) billion 3992011

up_yes : is_up 0 ≡ true
unfolding computing
up_yes = refl

up_no : is_up 1 ≡ false
unfolding computing
up_no = refl

dead_no : is_dead 0 ≡ false
unfolding computing
dead_no = refl

dead_yes : is_dead 1 ≡ true
unfolding computing
dead_yes = refl

ends_8 : (v w : ℕ → Verdict) → AtEach sheet (λ s. v s ≡ marked (is_up s)) → AtEach sheet (λ s. w s ≡ marked (is_dead s))
    → AtEach sheet λ s. EndsAt sheet (until_of eight v w) s (lower8 s) (upper8 s)
ends_8 v w h k =
    at_two _ (rw dead_no (eight_hours_ends v w h k))
    (rw dead_yes (ends_certain sheet eight v w 1 (omega (arith, two_states)) (k 1 (omega (arith, two_states)) ∙ dead_1)))

-- with a threshold between 0 and 1,000,000,000 the verdicts follow from the ends
by_ends : {decided possible certain : Type 0} (r : Comparison) (p : ℕ) (v : Verdict) {interval : Type 0} → 0 < p → p < billion → interval
    → Ruled decided r p possible certain v interval
by_ends r p v a b h =
    record { at_0 = λ d e. absurd (omega arith); at_1 = λ d e. absurd (omega arith); elsewhere = λ n. h }

-- a backing of `P r p U 8 up dead`, for any comparison and such a threshold
unfoldable inner : (r : Comparison) (p : ℕ) → 0 < p → p < billion → Reported sheet (chance r p (until eight up dead)) lower8 upper8 (λ s. judged r p (lower8 s) (upper8 s))
inner r p a b =
    record {
      first = λ s. marked (is_up s);
      first_backed = λ s l. refl;
      second = λ s. marked (is_dead s);
      second_backed = λ s l. refl;
      keeps = record {
        ends = ends_8 (λ s. marked (is_up s)) (λ s. marked (is_dead s)) (λ s l. refl) (λ s l. refl);
        verdict = λ s l. by_ends r p _ a b refl;
      };
    }

-- "P >= 1 U 8 up P > 10000000 U 8 up dead": the inner `P` is no at state 0 and yes at state 1, as `dead` is
inner_is : AtEach sheet λ s. judged More 10000000 (lower8 s) (upper8 s) ≡ marked (is_dead s)
inner_is = at_two _ (rw dead_no) (rw dead_yes)

abbrev nested_formula : Formula
nested_formula = chance AtLeast 1 (until eight up (chance More 10000000 (until eight up dead)))

outer : AtEach sheet λ s. Yes ≡ judged AtLeast 1 (lower8 s) (upper8 s)
outer = at_two _ (rw dead_no) (rw dead_yes)

unfoldable nested_backing : Reported sheet nested_formula lower8 upper8 (λ s. Yes)
nested_backing =
    record {
      first = λ s. marked (is_up s);
      first_backed = λ s l. refl;
      second = λ s. judged More 10000000 (lower8 s) (upper8 s);
      second_backed = record { lower = lower8; upper = upper8; keeps = inner More 10000000 (omega arith) (omega arith) };
      keeps = record {
        ends = ends_8 (λ s. marked (is_up s)) (λ s. judged More 10000000 (lower8 s) (upper8 s)) (λ s l. refl) inner_is;
        verdict = λ s l. by_ends AtLeast 1 Yes (omega arith) (omega arith) (outer s l);
      };
    }

pub nested : Reported sheet (chance AtLeast 1 (until eight up (chance More 10000000 (until eight up dead)))) lower8 upper8 (λ s. Yes)
nested = nested_backing

-- nothing is undecided in it, so its verdicts are a truth table
decided_mark : (b : Bool) → Decided (marked b)
decided_mark true = tt
decided_mark false = tt

nested_decided : NothingUndecided sheet nested_formula (λ s. Yes) (backing_of sheet nested_formula lower8 upper8 (λ s. Yes) nested_backing)
unfolding NothingUndecided NothingUndecidedIn backing_of nested_backing inner
nested_decided = (
  λ s l. tt,
  (
    λ s l. decided_mark (is_up s),
    (λ s l. rw (inner_is s l) (decided_mark (is_dead s)), (λ s l. decided_mark (is_up s), λ s l. decided_mark (is_dead s))),
  ),
)

pub nested_obeys : Obeys sheet (chance AtLeast 1 (until eight up (chance More 10000000 (until eight up dead)))) (λ s. true)
nested_obeys =
    verdicts_obey sheet nested_formula (λ s. Yes) (backing_of sheet nested_formula lower8 upper8 (λ s. Yes) nested_backing) nested_decided

-- "P >= 5 U 8 up P <= 3992010 U 8 up dead": the inner `P` is undecided at state 0 and no at state 1
abbrev open8 : ℕ → Verdict
open8 s = judged AtMost 3992010 (lower8 s) (upper8 s)

open_0 : open8 0 ≡ Undecided
open_0 = rw dead_no

open_1 : open8 1 ≡ No
open_1 = rw dead_yes

apart : {x : Verdict} {A : Type 0} → x ≡ Undecided → x ≡ Yes → A
apart {x} h k = let z : ◌≡◌ {A = ℕ} 0 1 = cc in absurd (omega arith)

module _ (v : ℕ → Verdict) (h : AtEach sheet (λ s. v s ≡ marked (is_up s))) where
  low_0 : (n : ℕ) → (low_quotient sheet eight v open8 0 n).top ≡ 0
  low_0 n =
      until_nowhere sheet eight (least v) (least open8) (at_two _ (rw open_0) (rw open_1)) 0 n (omega (arith, two_states))

  high_1 : (n : ℕ) → (high_quotient sheet eight v open8 0 n).top ≡ (high_quotient sheet eight v open8 0 n).bottom
  high_1 n = until_one sheet eight (most v) (most open8) 0 (omega (arith, two_states)) (rw open_0) n

  open_ends : EndsAt sheet (until_of eight v open8) 0 0 billion
  open_ends =
      record {
        lower_side = λ n d. omega arith;
        lower_near = λ n d. omega (arith, low_0 n);
        upper_side = λ n d. omega (arith, high_1 n);
        upper_near = λ n d. omega (arith, high_1 n);
        width = λ i. absurd (rw open_0 at (i.1 0 (omega (arith, two_states))));
        lower_range = omega arith;
        upper_range = omega arith;
        points = record {
          certain = λ e. apart open_0 e;
          impossible = λ e f. yes_or_no (h 0 (omega (arith, two_states)) ∙ up_0) e;
          lower_exact = λ z. absurd (moving z);
          upper_exact = λ z. absurd (moving z);
        };
      }

abbrev pub open_upper : ℕ → ℕ
open_upper s = cond (is_up s) billion 0

abbrev pub open_verdict : ℕ → Verdict
open_verdict s = cond (is_up s) Undecided No

open_judged : AtEach sheet λ s. open_verdict s ≡ judged AtLeast 5 0 (open_upper s)
open_judged = at_two _ (rw up_yes) (rw up_no)

pub undecided : Reported sheet (chance AtLeast 5 (until eight up (chance AtMost 3992010 (until eight up dead)))) (λ s. 0) open_upper open_verdict
undecided =
    record {
      first = λ s. marked (is_up s);
      first_backed = λ s l. refl;
      second = open8;
      second_backed = record { lower = lower8; upper = upper8; keeps = inner AtMost 3992010 (omega arith) (omega arith) };
      keeps = record {
        ends = at_two _ (rw up_yes (open_ends (λ s. marked (is_up s)) (λ s l. refl)))
            (rw up_no (ends_impossible sheet eight (λ s. marked (is_up s)) open8 1 (omega (arith, two_states)) up_1 open_1));
        verdict = λ s l. by_ends AtLeast 5 (open_verdict s) (omega arith) (omega arith) (open_judged s l);
      };
    }
