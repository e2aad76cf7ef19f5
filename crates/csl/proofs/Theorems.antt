-- What follows from the definitions alone: the user's third demand, of EVERY report that has a backing, whoever made it; the bench values;
-- what document 01 says in passing; and that the rules can be kept. Nothing here speaks of a program. Assumes nothing.
use Rattle.std.specs.Prelude.{◌≡◌, refl, Bool, true, false, cond, ◌&&◌, ◌⊎◌, ℕ, suc, ◌+◌, ◌*◌, ◌-◌, ◌≤◌, ◌<◌, min, List, ◌++◌, leb, eqb, length, drop, replicate, None, Some}
use Rattle.std.proofs.Common.{◌∙◌, le-leb, le-ltb, arith}
use Rattle.csl.specs.Text.{Text, any}
use Rattle.csl.specs.Limits.{billion, formula_digits, hour, most_hundredths, most_rate_hundredths, width_factor, spare_steps}
use Rattle.csl.specs.Number.{is_number, value_of}
use Rattle.csl.specs.Hours.{point, hundredths_of}
use Rattle.csl.specs.Formula.{nodes, nodes_in, levels, levels_in, labels_pass, labels_pass_in, paths_pass, paths_pass_in}
use Rattle.csl.specs.Formula.{Formula, chance, Path, until, next_move, between, PathOf, until_of, next_of, between_of, two_phases, Comparison, Less, AtMost, AtLeast, More}
use Rattle.csl.specs.Grammar.{read_state, whole, Spells}
use Rattle.csl.specs.Fraction.{frac, IsFraction, Below, Same, times, sum_up, round_up, billionths}
use Rattle.csl.specs.Chain.{Chain, exit_rate, top_rate, load, depth}
use Rattle.csl.specs.Phase.{bit, divisor, step_top, step_value, weight, quotient}
use Rattle.csl.specs.Limit.{Each, FromSome, LimitIs}
use Rattle.csl.specs.Verdicts.{Verdict, No, Yes, Reading, Decided, as_no, as_yes, least, Sides}
use Rattle.csl.specs.Graph.{Leads, UntilPossible, UntilCertain, Enters, EntersOnly, ByPossible, ByCertain}
use Rattle.csl.specs.Until.{until_phase, until_quotient}
use Rattle.csl.specs.Next.{next_exit_rate, next_fraction, next_lower, next_upper}
use Rattle.csl.specs.Between.{later_quotient, earlier_phase, between_quotient}
use Rattle.csl.specs.Path.{meaning, value_at, SidesAt, AllDecided, DecidedIn, Reads, reads_until, reads_next, reads_between}
use Rattle.csl.specs.Ends.{EndsAt}
use Rattle.csl.specs.Backing.{AtEach, Backed, ChanceKeeps, operands_of, NothingUndecided, SidesThroughout}
use Rattle.csl.specs.Truth.{Obeys, Throughout}
use Rattle.csl.specs.Order.{is_above, worst_first, Ranks, InOrder}
use Rattle.csl.specs.Report.{Reported, backing_of, depth_of}
use Rattle.csl.specs.Lent.{Buffers, lengths, needed, is_short, filled}
use Rattle.csl.specs.Refusal.{Job, job_chain, formula_tests, first_of, formula_from, is_missing, large_formula, strange_label, wrong_bound, wrong_times, high_load, short_buffer}
use Rattle.csl.specs.Finished.{Answer, Finished}
use Rattle.csl.specs.Bench.{small, up, dead, eight, Accepts, BenchValues, DecimalHours, NextMoves, SecondListing, PossibleAndCertain, NotBeforeAnHour, AnyOrder, SmallerMarkBuffer, PrismFiles, EightHours, TrialQuotients}
use Rattle.csl.proofs.Laws.Computing.{computing}
use Rattle.csl.proofs.Laws.Fraction.{under_below}
use Rattle.csl.proofs.Laws.Steps.{step_le, step_rises, divisor_some}
use Rattle.csl.proofs.Laws.Quotient.{Implies, until_starts, until_under, until_is, until_le, until_rises, weights_some}
use Rattle.csl.proofs.Laws.Next.{next_is, next_le, next_rises}
use Rattle.csl.proofs.Laws.NextEnds.{ends_next}
use Rattle.csl.proofs.Laws.Between.{earlier_start, between_is, between_le, between_rises}
use Rattle.csl.proofs.Laws.BetweenEnds.{still_pair_lower, still_pair_upper, between_reports, until_reports}
use Rattle.csl.proofs.Laws.OwnState.{exit_own, SameElsewhere, exit_same, top_same, depth_same, until_same_elsewhere, between_same_elsewhere}
use Rattle.csl.proofs.Laws.Tail.{half_weight, light_from, after}
use Rattle.csl.proofs.Laws.Enclosure.{Encloses, encloses, ordered_ends}
use Rattle.csl.proofs.Laws.PointQuotients.{until_one}
use Rattle.csl.proofs.Laws.Led.{unled_none}
use Rattle.csl.proofs.Laws.Graph.{impossible_quotients, until_some, until_part, next_some, next_entered, next_full, next_all}
use Rattle.csl.proofs.Laws.Follows.{sides_one, moves_decide_lem, interval_stands}
use Rattle.csl.proofs.Laws.Settled.{tables_agree, verdicts_obey}
use Rattle.csl.proofs.Laws.Backing.{kept_operands}
use Rattle.csl.proofs.Laws.Throughout.{throughout, sides, sides_throughout, Together, backings_agree}
use Rattle.csl.proofs.Laws.Grammar.{read_if_spelled, spelled_if_read}
use Rattle.csl.proofs.Laws.Order.{rows_rank, ordered_in_order, only_in_order, order_same}
use Rattle.csl.specs.Laws.Lending.{ButForMarks}
use Rattle.csl.proofs.Laws.Lending.{marks_alone, marks_short, marks_left_lem, long_alike, finished_alike}
use Rattle.csl.proofs.Laws.Bench as bench
use Rattle.csl.proofs.Laws.BenchNext as next-bench
use Rattle.csl.proofs.Laws.BenchGraph as graph-bench
use Rattle.csl.proofs.Laws.BenchBetween as between-bench
use Rattle.csl.proofs.Laws.BenchOrder as order-bench
use Rattle.csl.proofs.Laws.BenchMarks as marks-bench
use Rattle.csl.proofs.Laws.BenchImport as import-bench
use Rattle.csl.proofs.Laws.Trial as trial
use Rattle.csl.proofs.Laws.EightHours as hours
use Rattle.csl.proofs.Laws.WholeHours as without-point
use Rattle.csl.proofs.Laws.Examples as examples

-- T1. Demand 3: "the outermost until's quotient at every depth from D on, for every reading, lies in the interval; width at most 4 × D
-- billionths where no operand state is undecided". Of any path w; k is any backing of the report, and x any reading of its operands.
module _ (c : Chain) (r : Comparison) (p : ℕ) (w : Path) (lower upper : ℕ → ℕ) (v : ℕ → Verdict)
    (k : Reported c (chance r p w) lower upper v) where
  -- the verdicts of the operands in that backing
  abbrev pub operands : PathOf (ℕ → Verdict)
  operands = operands_of c w (ChanceKeeps c r p lower upper v) k

  kept : ChanceKeeps c r p lower upper v operands
  kept = kept_operands c w (ChanceKeeps c r p lower upper v) k

  pub values_lie_in_the_interval : (x : PathOf (ℕ → Bool)) → Reads c.states operands x → (s : ℕ) → s < c.states
      → Each (λ y. Below (billionths (lower s)) y) (value_at c x s) × Each (λ y. Below y (billionths (upper s))) (value_at c x s)
  values_lie_in_the_interval x i s l =
      let e : Encloses c (lower s) (upper s) x s = encloses c operands x s (lower s) (upper s) l (kept.ends s l) i in (e.below, e.above)

  pub intervals_are_narrow : DecidedIn c operands → (s : ℕ) → s < c.states → upper s ≤ lower s + (meaning c operands).slack
  intervals_are_narrow i s l = (kept.ends s l).width i

  -- Demand 2: by the moves, "with thresholds 0 and 1,000,000,000, where no operand state is undecided"; else yes when the interval lies wholly on
  -- the threshold's true side, no when wholly on the false side, else undecided
  pub verdicts_follow : (s : ℕ) → s < c.states → SidesAt c operands r p s (lower s) (upper s) (v s)
  verdicts_follow s l = sides c r p lower upper v operands kept s l

  -- the one verdict that this rule allows
  pub one_verdict_follows : (x : Verdict) (s : ℕ) → s < c.states → SidesAt c operands r p s (lower s) (upper s) x → v s ≡ x
  one_verdict_follows x s l h =
      sides_one c r p s (lower s) (upper s) (v s) operands x (ordered_ends c operands s (lower s) (upper s) l (kept.ends s l)) (verdicts_follow s l) h

  -- where the moves decide nothing is undecided; elsewhere, and of two phases, the interval rule stands
  pub moves_leave_nothing_undecided : two_phases operands ≡ false → DecidedIn c operands → (p ≡ 0) ⊎ (p ≡ billion)
      → (s : ℕ) → s < c.states → Decided (v s)
  moves_leave_nothing_undecided i d e s l = moves_decide_lem c r p s (lower s) (upper s) (v s) operands i d e (kept.verdict s l)

  pub verdicts_follow_from_the_intervals : (two_phases operands ≡ false → DecidedIn c operands → (p ≡ 0) ⊎ (p ≡ billion) → ⊥)
      → (s : ℕ) → s < c.states → Sides (v s) r p (lower s) (upper s)
  verdicts_follow_from_the_intervals n s l = interval_stands c r p s (lower s) (upper s) (v s) operands n (verdicts_follow s l)

-- The same of an until, whose quotients and operands can be named.
module _ (c : Chain) (r : Comparison) (p t : ℕ) (a b : Formula) (lower upper : ℕ → ℕ) (v : ℕ → Verdict)
    (k : Reported c (chance r p (until t a b)) lower upper v) where
  pub quotients_lie_in_the_interval : (x y : ℕ → Bool) → Reading c.states k.first x → Reading c.states k.second y
      → (s n : ℕ) → s < c.states → depth c t ≤ n
      → Below (billionths (lower s)) (until_quotient c t x y s n) × Below (until_quotient c t x y s n) (billionths (upper s))
  quotients_lie_in_the_interval x y i j s n l d =
      let h = values_lie_in_the_interval c r p (until t a b) lower upper v k (until_of t x y) (reads_until t k.first k.second x y i j) s l in
      (h.0 n d, h.1 n d)

  pub intervals_of_an_until_are_narrow : AllDecided c k.first → AllDecided c k.second → (s : ℕ) → s < c.states
      → upper s ≤ lower s + width_factor * depth c t
  intervals_of_an_until_are_narrow i j s l = intervals_are_narrow c r p (until t a b) lower upper v k (i, j) s l

  pub moves_decide_an_until : AllDecided c k.first → AllDecided c k.second → (s : ℕ) → s < c.states
      → (p ≡ 0 → ByPossible r (UntilPossible c t (least k.first) (least k.second) s) (v s))
      × (p ≡ billion → ByCertain r (UntilCertain (least k.second) s) (v s))
  moves_decide_an_until i j s l = ((k.keeps.verdict s l).at_0 (i, j), (k.keeps.verdict s l).at_1 (i, j))

-- The same of a next move: "no reading puts the fraction outside the interval"; "with a decided operand the width is at most 1". Both ends are
-- determined by the verdicts of the operand.
module _ (c : Chain) (r : Comparison) (p : ℕ) (a : Formula) (lower upper : ℕ → ℕ) (v : ℕ → Verdict)
    (k : Reported c (chance r p (next_move a)) lower upper v) where
  pub fractions_lie_in_the_interval : (x : ℕ → Bool) → Reading c.states k.first x → (s : ℕ) → s < c.states
      → Below (billionths (lower s)) (next_fraction c x s) × Below (next_fraction c x s) (billionths (upper s))
  fractions_lie_in_the_interval x i s l =
      values_lie_in_the_interval c r p (next_move a) lower upper v k (next_of x) (reads_next k.first x i) s l

  pub intervals_of_a_next_move_are_narrow : AllDecided c k.first → (s : ℕ) → s < c.states → upper s ≤ lower s + 1
  intervals_of_a_next_move_are_narrow i s l = intervals_are_narrow c r p (next_move a) lower upper v k i s l

  pub moves_decide_a_next_move : AllDecided c k.first → (s : ℕ) → s < c.states
      → (p ≡ 0 → ByPossible r (Enters c (least k.first) s) (v s)) × (p ≡ billion → ByCertain r (EntersOnly c (least k.first) s) (v s))
  moves_decide_a_next_move i s l = ((k.keeps.verdict s l).at_0 i, (k.keeps.verdict s l).at_1 i)

  pub ends_of_a_next_move : (s : ℕ) → s < c.states → (lower s ≡ next_lower c k.first s) × (upper s ≡ next_upper c k.first s)
  ends_of_a_next_move s l = let e = (k.keeps.ends s l).points in (e.lower_is, e.upper_is)

-- and these two keep every rule for ends, whatever the operand's verdicts are
pub next_moves_have_ends : (c : Chain) (v : ℕ → Verdict) (s : ℕ) → EndsAt c (next_of v) s (next_lower c v s) (next_upper c v s)
next_moves_have_ends c v s = ends_next c v s

-- The same of until between two times, with the first above 0: "for each pair of depths from the two phases' own depths on"; "the printed depth
-- is their sum, which is D in both limits of 4 × D"; of the point ends two hold, and the graph rule leaves it to its ends.
module _ (c : Chain) (r : Comparison) (p t u : ℕ) (a b : Formula) (lower upper : ℕ → ℕ) (v : ℕ → Verdict)
    (k : Reported c (chance r p (between (suc t) u a b)) lower upper v) where
  pub pairs_lie_in_the_interval : (x y : ℕ → Bool) → Reading c.states k.first x → Reading c.states k.second y
      → (s m n : ℕ) → s < c.states → depth c (suc t) ≤ m → depth c (u - suc t) ≤ n
      → Below (billionths (lower s)) (between_quotient c (suc t) u x y s m n) × Below (between_quotient c (suc t) u x y s m n) (billionths (upper s))
  pairs_lie_in_the_interval x y i j s m n l d e =
      let h = values_lie_in_the_interval c r p (between (suc t) u a b) lower upper v k (between_of (suc t) u x y)
      (reads_between (suc t) u k.first k.second x y i j) s l in
      (h.0 m n d e, h.1 m n d e)

  pub intervals_of_two_phases_are_narrow : AllDecided c k.first → AllDecided c k.second → (s : ℕ) → s < c.states
      → upper s ≤ lower s + width_factor * (depth c (suc t) + depth c (u - suc t))
  intervals_of_two_phases_are_narrow i j s l = intervals_are_narrow c r p (between (suc t) u a b) lower upper v k (i, j) s l

  pub impossible_in_two_phases : (s : ℕ) → s < c.states → k.first s ≡ No → (lower s ≡ 0) × (upper s ≡ 0)
  impossible_in_two_phases s l = (k.keeps.ends s l).points.impossible

  pub ends_of_two_phases_with_q_0 : top_rate c ≡ 0 → (s : ℕ) → s < c.states
      → (lower s ≡ billion * bit (as_no (k.first s) && as_no (k.second s))) × (upper s ≡ billion * bit (as_yes (k.first s) && as_yes (k.second s)))
  ends_of_two_phases_with_q_0 z s l = (
    still_pair_lower c t u k.first k.second s l (lower s) (upper s) z (k.keeps.ends s l),
    still_pair_upper c t u k.first k.second s l (lower s) (upper s) z (k.keeps.ends s l),
  )

  pub intervals_decide_two_phases : (s : ℕ) → s < c.states → Sides (v s) r p (lower s) (upper s)
  intervals_decide_two_phases s l = verdicts_follow c r p (between (suc t) u a b) lower upper v k s l

-- "With the first time 0 it is `U` with the second" in every respect: every report of the one is one of the other
pub first_time_0_is_until : (c : Chain) (r : Comparison) (p u : ℕ) (a b : Formula) (lower upper : ℕ → ℕ) (v : ℕ → Verdict)
    → (Reported c (chance r p (between 0 u a b)) lower upper v → Reported c (chance r p (until u a b)) lower upper v)
    × (Reported c (chance r p (until u a b)) lower upper v → Reported c (chance r p (between 0 u a b)) lower upper v)
first_time_0_is_until c r p u a b lower upper v = (between_reports c r p u a b lower upper v, until_reports c r p u a b lower upper v)

-- and it has the depth of that until, and is turned back with it
pub first_time_0_has_the_depth_of_until : (c : Chain) (r : Comparison) (p u : ℕ) (a b : Formula)
    → depth_of c (chance r p (between 0 u a b)) ≡ depth_of c (chance r p (until u a b))
unfolding depth_of
first_time_0_has_the_depth_of_until c r p u a b = refl

pub first_time_0_is_tested_as_until : (names : List Text) (q : ℕ) (r : Comparison) (p u : ℕ) (a b : Formula)
    → first_of (formula_tests names q (Some (chance r p (between 0 u a b)))) ≡ first_of (formula_tests names q (Some (chance r p (until u a b))))
unfolding formula_tests formula_from is_missing large_formula strange_label wrong_bound wrong_times high_load nodes nodes_in levels levels_in labels_pass labels_pass_in paths_pass paths_pass_in
first_time_0_is_tested_as_until names q r p u a b = rw (le-leb 0 u (omega arith)) refl

-- Demand 2 at every `P` of a backing, inner ones too
pub verdicts_follow_at_every_node : (c : Chain) (f : Formula) (v : ℕ → Verdict) (k : Backed c f v) → SidesThroughout c f v k
verdicts_follow_at_every_node c f v k = sides_throughout c f v k

-- T2. Demand 3: "every truth table that obeys CSL's rules agrees with each yes and no, nested formulas included". At every node, and for
-- the verdicts of every report.
pub tables_agree_at_every_node : (c : Chain) (f : Formula) (v : ℕ → Verdict) (table : ℕ → Bool) (k : Backed c f v) (o : Obeys c f table)
    → Throughout c f v table k o
tables_agree_at_every_node c f v table k o = throughout c f v table k o

pub tables_agree_with_the_report : (c : Chain) (f : Formula) (lower upper : ℕ → ℕ) (v : ℕ → Verdict) (table : ℕ → Bool)
    → Reported c f lower upper v → Obeys c f table → Reading c.states v table
tables_agree_with_the_report c f lower upper v table k o = tables_agree c f v table (backing_of c f lower upper v k) o

-- and so no two backings stand yes against no
pub backings_never_contradict : (c : Chain) (f : Formula) (v w : ℕ → Verdict) → Backed c f v → Backed c f w
    → AtEach c λ s. Together (v s) (w s)
backings_never_contradict c f v w k m = backings_agree c f v w k m

-- T3. Demand 3: "with nothing undecided the verdicts are such a table". There is a table that obeys CSL's rules and agrees with the backing
-- at every node: since nothing there is undecided, its entries are the verdicts.
pub decided_verdicts_are_a_table : (c : Chain) (f : Formula) (v : ℕ → Verdict) (k : Backed c f v) → NothingUndecided c f v k
    → (o : Obeys c f (λ s. as_no (v s))) × Throughout c f v (λ s. as_no (v s)) k o
decided_verdicts_are_a_table c f v k d =
    let o : Obeys c f (λ s. as_no (v s)) = verdicts_obey c f v k d in (o, throughout c f v (λ s. as_no (v s)) k o)

-- T4. The starred bench values, those of hours with decimals, of the next move and of moves to the own state, of the second listing, of what the
-- moves decide, of until between two times, of moves in any order and their copies, of the lent marks, of imports of PRISM's files, and
-- `P <= 10000000 U 8 up dead`, of every report that has a backing; and quotients as a second reckoning has them.
pub starred_bench_values : BenchValues
starred_bench_values = bench.bench_values

pub hours_with_decimals : DecimalHours
hours_with_decimals = bench.decimal_hours

pub next_moves_and_restarts : NextMoves
next_moves_and_restarts = next-bench.next_moves

pub second_listing_and_order_buffer : SecondListing
second_listing_and_order_buffer = bench.second_listing

pub possible_and_certain : PossibleAndCertain
possible_and_certain = graph-bench.possible_and_certain

pub not_before_an_hour : NotBeforeAnHour
not_before_an_hour = between-bench.not_before_an_hour

pub moves_in_any_order : AnyOrder
moves_in_any_order = order-bench.any_order

pub smaller_mark_buffer : SmallerMarkBuffer
smaller_mark_buffer = marks-bench.smaller_mark_buffer

pub imports_of_prism's_files : PrismFiles
imports_of_prism's_files = import-bench.prism_files

pub eight_hours_of_every_report : (lower upper : ℕ → ℕ) (v : ℕ → Verdict)
    → Reported (job_chain (small "P <= 10000000 U 8 up dead\n")) (chance AtMost 10000000 (until eight up dead)) lower upper v → EightHours lower upper v
eight_hours_of_every_report lower upper v k = hours.eight_hours lower upper v k

pub quotients_as_reckoned : TrialQuotients
quotients_as_reckoned = trial.trial_quotients

-- T5. What document 01 says in passing, for any chain, hours and places where the operands hold.
module _ (c : Chain) (first second : ℕ → Bool) where
  -- step values lie from 0 to 1, and their divisor is above 0
  pub step_values_are_at_most_1 : (k s : ℕ) → s < c.states → step_top c (until_phase first second) k s ≤ divisor c 1 k
  step_values_are_at_most_1 k s l = step_le c (until_phase first second) (until_starts c first second) k s l

  pub step_divisors_are_above_0 : (k : ℕ) → 0 < divisor c 1 k
  step_divisors_are_above_0 k = divisor_some c 1 (omega arith) k

  -- "divided by the sum of those weights": that is above 0, and the quotient a fraction from 0 to 1
  pub weight_sums_are_above_0 : (t n : ℕ) → 0 < (sum_up (weight (load c t)) n).top
  weight_sums_are_above_0 t n = weights_some c t n

  pub quotients_are_fractions : (t s n : ℕ) → IsFraction (until_quotient c t first second s n)
  quotients_are_fractions t s n = until_is c t first second s n

  pub quotients_are_at_most_1 : (t s n : ℕ) → s < c.states → Below (until_quotient c t first second s n) (frac 1 1)
  quotients_are_at_most_1 t s n l = omega (arith, until_le c t first second s n l)

-- step values and quotients grow with the reading
module _ (c : Chain) (a b a' b' : ℕ → Bool) (h : Implies c.states a a') (k : Implies c.states b b') where
  pub step_values_grow_with_the_reading : (n s : ℕ) → s < c.states → step_top c (until_phase a b) n s ≤ step_top c (until_phase a' b') n s
  step_values_grow_with_the_reading n s l =
      step_rises c (until_phase a b) (until_phase a' b') (until_starts c a b) (until_under c a b a' b' h k) n s l

  pub quotients_grow_with_the_reading : (t s n : ℕ) → s < c.states → Below (until_quotient c t a b s n) (until_quotient c t a' b' s n)
  quotients_grow_with_the_reading t s n l = under_below (until_rises c t a b a' b' h k s n l)

-- the fraction of a next move lies from 0 to 1 and grows with the reading
module _ (c : Chain) (s : ℕ) where
  pub next_fractions_are_fractions : (x : ℕ → Bool) → IsFraction (next_fraction c x s)
  next_fractions_are_fractions x = next_is c x s

  pub next_fractions_are_at_most_1 : (x : ℕ → Bool) → Below (next_fraction c x s) (frac 1 1)
  next_fractions_are_at_most_1 x = omega (arith, next_le c x s)

  pub next_fractions_grow_with_the_reading : (x y : ℕ → Bool) → Implies c.states x y → Below (next_fraction c x s) (next_fraction c y s)
  next_fractions_grow_with_the_reading x y h = under_below (next_rises c x y s h)

-- until between two times: the earlier phase starts as the request says, and the quotients at pairs of depths are fractions from 0 to 1 that grow
-- with the reading
module _ (c : Chain) (t u : ℕ) where
  pub earlier_phase_starts_from_the_later_quotient : (first second : ℕ → Bool) (s n : ℕ)
      → Same (step_value c (earlier_phase c t u first second n) s 0) (cond (first s) (later_quotient c t u first second s n) (frac 0 1))
  earlier_phase_starts_from_the_later_quotient first second s n = earlier_start c t u first second s n

  pub pair_quotients_are_fractions : (first second : ℕ → Bool) (s m n : ℕ) → IsFraction (between_quotient c t u first second s m n)
  pair_quotients_are_fractions first second s m n = between_is c t u first second s m n

  pub pair_quotients_are_at_most_1 : (first second : ℕ → Bool) (s m n : ℕ) → s < c.states
      → Below (between_quotient c t u first second s m n) (frac 1 1)
  pair_quotients_are_at_most_1 first second s m n l = omega (arith, between_le c t u first second s m n l)

  pub pair_quotients_grow_with_the_reading : (a b a' b' : ℕ → Bool) → Implies c.states a a' → Implies c.states b b'
      → (s m n : ℕ) → s < c.states → Below (between_quotient c t u a b s m n) (between_quotient c t u a' b' s m n)
  pair_quotients_grow_with_the_reading a b a' b' h k s m n l = under_below (between_rises c t u a b a' b' h k s m n l)

-- "In the last 40 steps up to D, and after, each weight is at most half the one before." The step is k + 1.
pub weights_halve : (c : Chain) (t k : ℕ) → depth c t ≤ k + spare_steps
    → Below (times (frac 2 1) (weight (load c t) (suc k))) (weight (load c t) k)
weights_halve c t k h = half_weight c t k h

-- so the weights after D, however many, add to at most the weight at D
pub weights_after_the_depth : (c : Chain) (t j : ℕ)
    → Below (sum_up (λ i. weight (load c t) (suc (depth c t) + i)) j) (weight (load c t) (depth c t))
unfolding load
weights_after_the_depth c t j = after (load c t) (omega arith) (depth c t) (light_from c t (depth c t) (omega arith)) j

-- T6. The definitions do not contradict themselves: two jobs, accepted, that have a report with a backing, and a truth table of the first.
pub record HasReport (j : Job) (f : Formula) (q d : ℕ) (lower upper : ℕ → ℕ) (v : ℕ → Verdict) : Type 0 where
  pub accepts : Accepts j f q d
  pub reported : Reported (job_chain j) f lower upper v

-- a `P` within a `P`: 3,992,010 to 3,992,011 at state 0, 1,000,000,000 twice at state 1, yes twice
pub nested_job_has_a_report : HasReport (small "P >= 1 U 8 up P > 10000000 U 8 up dead\n")
    (chance AtLeast 1 (until eight up (chance More 10000000 (until eight up dead)))) 500 42 examples.lower8 examples.upper8 (λ s. Yes)
unfolding computing
nested_job_has_a_report = record { accepts = refl; reported = examples.nested }

-- and a truth table that obeys CSL's rules, yes twice at the outermost node
pub nested_job_has_a_table : Obeys (job_chain (small "P >= 1 U 8 up P > 10000000 U 8 up dead\n"))
    (chance AtLeast 1 (until eight up (chance More 10000000 (until eight up dead)))) (λ s. true)
nested_job_has_a_table = examples.nested_obeys

-- an undecided operand: 0 to 1,000,000,000 and undecided at state 0, 0 twice and no at state 1
pub undecided_job_has_a_report : HasReport (small "P >= 5 U 8 up P <= 3992010 U 8 up dead\n")
    (chance AtLeast 5 (until eight up (chance AtMost 3992010 (until eight up dead)))) 500 42 (λ s. 0) examples.open_upper examples.open_verdict
unfolding computing
undecided_job_has_a_report = record { accepts = refl; reported = examples.undecided }

-- T7. Hours without a point: "the top is 8,760 hours as before", and each is read, tested and weighed as document 01 has whole hours, so a
-- formula without a point keeps its report.
pub whole_hours_are_read : (w : Text) → any (λ b. eqb b point) w ≡ false
    → hundredths_of w ≡ cond (is_number formula_digits w) (Some (value_of w * hour)) None
whole_hours_are_read w h = without-point.whole_read w h

-- 13: "hours over 8,760"; 14: "q × t over 64,000,000"
pub whole_hours_over_the_top : (t : ℕ) → leb (t * hour) most_hundredths ≡ leb t 8760
whole_hours_over_the_top t = without-point.counted t 8760

module _ (c : Chain) (t : ℕ) where
  pub whole_hours_over_the_load : leb (top_rate c * (t * hour)) most_rate_hundredths ≡ leb (top_rate c * t) 64000000
  whole_hours_over_the_load = rw (without-point.in_hundredths (top_rate c) t) (without-point.counted (top_rate c * t) 64000000)

  -- "the load L is q × t / 1,000,000, an exact fraction. The depth D is 2 × (L rounded up to a whole number) + 40."
  pub whole_hours_have_their_depth : depth c (t * hour) ≡ 2 * round_up (frac (top_rate c * t) 1000000) + spare_steps
  unfolding depth load
  whole_hours_have_their_depth = rw (without-point.in_hundredths (top_rate c) t, without-point.rounded (top_rate c * t))

  pub whole_hours_have_their_quotients : (first second : ℕ → Bool) (s n : ℕ)
      → Same (until_quotient c (t * hour) first second s n)
      (quotient (frac (top_rate c * t) 1000000) (step_value c (until_phase first second) s) n)
  unfolding load
  whole_hours_have_their_quotients first second s n =
      without-point.same_quotient (load c (t * hour)) (frac (top_rate c * t) 1000000) (omega arith) (step_value c (until_phase first second) s) n

-- T8. Moves to the own state. They "count in the exit rate for `X`", which is that of until and the rate to the own state.
pub exit_rates_differ_by_the_own_state : (c : Chain) (s : ℕ) → s < c.states → next_exit_rate c s ≡ exit_rate c s + c.rate s s
exit_rates_differ_by_the_own_state c s l = exit_own c s l

-- "Until leaves them out of exit rates and q": chains that differ in them alone have the same exit rates, q, depths and quotients.
module _ (c d : Chain) (e : SameElsewhere c d) where
  pub until_leaves_out_of_exit_rates : (s : ℕ) → exit_rate c s ≡ exit_rate d s
  until_leaves_out_of_exit_rates s = exit_same e s

  pub until_leaves_out_of_q : top_rate c ≡ top_rate d
  until_leaves_out_of_q = top_same e

  pub until_leaves_out_of_depths : (t : ℕ) → depth c t ≡ depth d t
  until_leaves_out_of_depths t = depth_same e t

  pub until_leaves_out_of_quotients : (t : ℕ) (first second : ℕ → Bool) (s n : ℕ)
      → until_quotient c t first second s n ≡ until_quotient d t first second s n
  until_leaves_out_of_quotients t first second s n = until_same_elsewhere e t first second s n

  pub pair_quotients_leave_them_out : (t u : ℕ) (first second : ℕ → Bool) (s m n : ℕ)
      → between_quotient c t u first second s m n ≡ between_quotient d t u first second s m n
  pair_quotients_leave_them_out t u first second s m n = between_same_elsewhere e t u first second s m n

-- T9. The second listing. Its relation is total and has no ties; so there is one listing of the states in its order, every state once and each
-- above the next, and no other. It looks at the ends of the states below n alone.
module _ (lower upper : ℕ → ℕ) where
  pub rows_have_no_ties : Ranks (is_above lower upper)
  rows_have_no_ties = rows_rank lower upper

  pub second_listing_is_in_order : (n : ℕ) → InOrder (is_above lower upper) n (worst_first lower upper n)
  second_listing_is_in_order n = ordered_in_order (is_above lower upper) rows_have_no_ties n

  pub no_other_listing_is_in_order : (n : ℕ) (l : List ℕ) → InOrder (is_above lower upper) n l → l ≡ worst_first lower upper n
  no_other_listing_is_in_order n l h = only_in_order (is_above lower upper) rows_have_no_ties n l h

  pub order_is_of_the_states_below_n : (n : ℕ) (lower' upper' : ℕ → ℕ) → ((s : ℕ) → s < n → lower s ≡ lower' s)
      → ((s : ℕ) → s < n → upper s ≡ upper' s) → worst_first lower upper n ≡ worst_first lower' upper' n
  order_is_of_the_states_below_n n lower' upper' h k = order_same lower upper lower' upper' n h k

-- T10. What the moves say of a path is what its probability is. Of an until, where x and y say where the operands hold:
module _ (c : Chain) (t : ℕ) (x y : ℕ → Bool) (s : ℕ) (l : s < c.states) where
  -- possible: from some depth on the quotients stay above some fixed fraction
  pub possible_is_more_than_0 : UntilPossible c t x y s → LimitIs More 0 (FromSome (until_quotient c t x y s))
  possible_is_more_than_0 h = until_some c x y s l t h

  -- not possible: where nothing leads to the second operand every step value is 0; and every quotient is, at time 0 too
  pub where_nothing_leads_step_values_are_0 : (Leads c x y s → ⊥) → (k : ℕ) → step_top c (until_phase x y) k s ≡ 0
  where_nothing_leads_step_values_are_0 h k = unled_none c x y k s l h

  pub impossible_quotients_are_0 : (UntilPossible c t x y s → ⊥) → (n : ℕ) → (until_quotient c t x y s n).top ≡ 0
  impossible_quotients_are_0 h n = impossible_quotients c x y s l t h n

  -- certain: every quotient is 1; not certain: from some depth on they stay below 1 − 1/m, for some m
  pub certain_quotients_are_1 : UntilCertain y s → (n : ℕ) → (until_quotient c t x y s n).top ≡ (until_quotient c t x y s n).bottom
  certain_quotients_are_1 h n = until_one c t x y s l h n

  pub uncertain_is_less_than_1 : (UntilCertain y s → ⊥) → LimitIs Less billion (FromSome (until_quotient c t x y s))
  uncertain_is_less_than_1 h = until_part c x y s l t h

-- and of a next move
module _ (c : Chain) (x : ℕ → Bool) (s : ℕ) where
  pub next_possible_exactly_above_0 : (Enters c x s → 0 < (next_fraction c x s).top) × (0 < (next_fraction c x s).top → Enters c x s)
  next_possible_exactly_above_0 = (next_some c x s, next_entered c x s)

  pub next_certain_exactly_at_1 : (EntersOnly c x s → (next_fraction c x s).top ≡ (next_fraction c x s).bottom)
      × ((next_fraction c x s).top ≡ (next_fraction c x s).bottom → EntersOnly c x s)
  next_certain_exactly_at_1 = (next_full c x s, λ e. next_all c x s (omega (arith, e)))

-- T11 to T13, of moves texts that say the same chain and of the clean copy, are in the crate `same_chain`.

-- T14. The lent marks. "mark bytes of 17 × n, or nodes × n where that is less, shall be enough", where the other six buffers are long enough: with
-- no node no marks are needed.
module _ (l : Buffers ℕ) (n m k : ℕ) (others : is_short l (needed n m 0) ≡ false) where
  pub seventeen_rows_are_enough : 17 * n ≤ l.marks → is_short l (needed n m k) ≡ false
  seventeen_rows_are_enough h = marks_alone l n m k others ∙ le-ltb l.marks (min (17 * n) (k * n)) (omega arith)

  pub a_row_for_each_node_is_enough : k * n ≤ l.marks → is_short l (needed n m k) ≡ false
  a_row_for_each_node_is_enough h = marks_alone l n m k others ∙ le-ltb l.marks (min (17 * n) (k * n)) (omega arith)

-- and so, where buffers are long enough, are others with as many marks
pub marks_of_the_new_length_are_enough : (x y : Buffers (List ℕ)) → ButForMarks x y → (n m k : ℕ) → is_short (lengths x) (needed n m k) ≡ false
    → min (17 * n) (k * n) ≤ length y.marks → is_short (lengths y) (needed n m k) ≡ false
marks_of_the_new_length_are_enough x y same n m k h l = long_alike x y same n m k h l

-- "15 and the zeros after acceptance use the new length"
pub less_than_both_is_too_short : (l : Buffers ℕ) (n m k : ℕ) → l.marks < 17 * n → l.marks < k * n → is_short l (needed n m k) ≡ true
less_than_both_is_too_short l n m k h i = marks_short l n m k (omega arith)

pub marks_hold_0_to_the_new_length : (n m k : ℕ) (lower upper : ℕ → ℕ) (v : ℕ → Verdict) (old : Buffers (List ℕ))
    → (filled n m k lower upper v old).marks ≡ replicate (min (17 * n) (k * n)) 0 ++ drop (min (17 * n) (k * n)) old.marks
marks_hold_0_to_the_new_length n m k lower upper v old = marks_left_lem n m k lower upper v old

-- "Ends, depths, verdicts and listings equal those of the larger buffer": what is finished over lent buffers is finished, with the same answer and
-- the same in every other buffer, over buffers that differ in the marks alone, if these are long enough in both or in neither.
pub marks_change_nothing_else : (j : Job) (x y : Buffers (List ℕ)) → ButForMarks x y → short_buffer j (lengths x) ≡ short_buffer j (lengths y)
    → (a : Answer) (left : Buffers (List ℕ)) → Finished j x a left → (other : Buffers (List ℕ)) × Finished j y a other × ButForMarks left other
marks_change_nothing_else j x y same h a left f = finished_alike j x y same h a left f

-- The reader of formulas is the grammar as document 01 lists it: tokens are read as a formula exactly where they spell it, so a text has
-- at most one reading.
pub formulas_are_read_where_they_are_spelled : (ts : List Text) (f : Formula) → Spells f ts → whole (read_state (length ts) ts) ≡ Some f
formulas_are_read_where_they_are_spelled ts f h = read_if_spelled ts f h

pub formulas_are_spelled_where_they_are_read : (ts : List Text) (f : Formula) → whole (read_state (length ts) ts) ≡ Some f → Spells f ts
formulas_are_spelled_where_they_are_read ts f h = spelled_if_read ts f h
