-- The user's three demands, in their order and terms, of every job: three texts and seven lent buffers, of all bytes and all lengths. A job is
-- finished (csl's `Finished`) when its answer and its buffers are as document 01 has them; that is what `checker::check` promises, with no
-- `requires`. What is stated here holds of every finished job. Assumes nothing.
use Rattle.std.specs.Prelude.{◌≡◌, Bool, false, ◌&&◌, List, ◌⊎◌, ℕ, suc, ◌+◌, ◌*◌, ◌-◌, ◌≤◌, ◌<◌, min, length, take, drop, None, Some}
use Rattle.csl.specs.Text.{Text}
use Rattle.csl.specs.Limits.{billion, width_factor}
use Rattle.csl.specs.Moves.{rates_out}
use Rattle.csl.specs.Formula.{Formula, chance, Path, until, next_move, between, PathOf, two_phases, Comparison, nodes}
use Rattle.csl.specs.Fraction.{Below, billionths}
use Rattle.csl.specs.Chain.{Chain, exit_rate, top_rate, depth}
use Rattle.csl.specs.Phase.{bit}
use Rattle.csl.specs.Limit.{Each}
use Rattle.csl.specs.Verdicts.{Verdict, No, Reading, Decided, as_no, as_yes, least, Sides}
use Rattle.csl.specs.Graph.{UntilPossible, UntilCertain, Enters, EntersOnly, ByPossible, ByCertain}
use Rattle.csl.specs.Until.{until_quotient}
use Rattle.csl.specs.Next.{next_exit_rate, next_fraction, next_lower, next_upper}
use Rattle.csl.specs.Between.{between_quotient}
use Rattle.csl.specs.Path.{meaning, value_at, SidesAt, AllDecided, DecidedIn, Reads}
use Rattle.csl.specs.Backing.{Backed, ChanceKeeps, operands_of, NothingUndecided, SidesThroughout}
use Rattle.csl.specs.Truth.{Obeys, Throughout, ThroughoutIn}
use Rattle.csl.specs.Order.{is_above, InOrder}
use Rattle.csl.specs.Report.{Reported, backing_of, depth_of}
use Rattle.csl.specs.Lent.{Buffers, lengths}
use Rattle.csl.specs.Refusal.{Job, job_states, job_moves, job_chain, job_formula, refusal, accepted, outcome}
use Rattle.csl.specs.Finished.{Answer, refused_with, accepted_with, Finished}
use Rattle.csl.specs.Laws.Lending.{ButForMarks}
use Rattle.csl.proofs.Theorems as theorems
use Rattle.same_chain.specs.SameJob.{SameLines}
use Rattle.same_chain.specs.Theorems as same
use Rattle.same_chain.specs.Theorems.{job_with}
use Rattle.accepted.specs.Rates.{others}
use Rattle.accepted.specs.Job.{refusal_number_not_7, refusal_number_not_8}
use Rattle.demands.specs.Proved as proved
use Rattle.demands.specs.Proved.{TheReport, agrees_here}

module _ (j : Job) (before : Buffers (List ℕ)) (a : Answer) (after : Buffers (List ℕ)) (finished : Finished j before a after) where
  -- Demand 1. "A job of three texts gets one finished report or one refusal number, for all bytes and all lent lengths; a refusal leaves every
  -- lent buffer untouched."
  pub one_report_or_one_number : ((number : ℕ) × (a ≡ refused_with number) × (1 ≤ number) × (number ≤ 16) × (after ≡ before))
      ⊎ ((lower : ℕ → ℕ) × (upper : ℕ → ℕ) × (v : ℕ → Verdict) × (a ≡ accepted_with (depth_of (job_chain j) (job_formula j)))
      × TheReport j before after lower upper v)
  one_report_or_one_number = proved.one_answer j before a after finished

  -- and 7 "is never given again", nor is 8
  pub seven_is_never_given : a ≡ refused_with 7 → ⊥
  seven_is_never_given h = proved.never j before a after 7 (refusal_number_not_7 j (lengths before)) finished h

  pub eight_is_never_given : a ≡ refused_with 8 → ⊥
  eight_is_never_given h = proved.never j before a after 8 (refusal_number_not_8 j (lengths before)) finished h

  -- Demand 2. "Read and decided as 01 defines: accepted when layouts and limits hold and only then; .. depth .. exact". The number is that of
  -- the first test that holds; the chain, with its rates and labels, and the formula are those of the texts (csl's job_chain, job_formula).
  pub refused_by_its_number : (number : ℕ) → refusal j (lengths before) ≡ Some number → a ≡ refused_with number
  refused_by_its_number number h = proved.refused_so j before a after finished number h

  pub accepted_with_its_depth : refusal j (lengths before) ≡ None → a ≡ accepted_with (depth_of (job_chain j) (job_formula j))
  accepted_with_its_depth h = proved.accepted_so j before a after finished h

  pub accepted_only_then : (d : ℕ) → a ≡ accepted_with d → refusal j (lengths before) ≡ None
  accepted_only_then d h = proved.accepted_then j before a after finished d h

-- "lines may stand in any order": the same lines in another order are the same job to all that is demanded, since what is finished for one is finished
-- for the other (that `checker::check` leaves the same bytes is `same_bytes` of checker/specs/Alike)
pub finished_in_any_order : (a b : Text) → SameLines a b → (labels formula : Text) (before : Buffers (List ℕ)) (x : Answer) (after : Buffers (List ℕ))
    → Finished (job_with a labels formula) before x after → Finished (job_with b labels formula) before x after
finished_in_any_order a b h labels formula before x after k = same.finished_in_any_order a b h labels formula before x after k

-- "mark bytes of 17 × n, or nodes × n where that is less, shall be enough. Ends, depths, verdicts and listings equal those of the larger buffer": an
-- accepted job is accepted with other marks that have as many bytes, and what is finished over the one is finished over the other, with the same
-- answer and the same in every other buffer (that `checker::check` leaves the same bytes is `same_but_for_marks` of checker/specs/OtherMarks)
module _ (j : Job) (x y : Buffers (List ℕ)) (same : ButForMarks x y) (accepts : refusal j (lengths x) ≡ None)
    (enough : min (17 * job_states j) (nodes (job_formula j) * job_states j) ≤ length y.marks) where
  pub accepted_with_other_marks : refusal j (lengths y) ≡ None
  accepted_with_other_marks = (proved.other_marks j x y same accepts enough).0

  pub finished_with_other_marks : (a : Answer) (left : Buffers (List ℕ)) → Finished j x a left
      → (other : Buffers (List ℕ)) × Finished j y a other × ButForMarks left other
  finished_with_other_marks a left f = (proved.other_marks j x y same accepts enough).1 a left f

-- ".. rate, depth and labels exact": an accepted job is decided over the chain of its texts, at that chain's greatest exit rate. (That the
-- code's q is this one is the field `q` of what `refusals::test_sheet` promises: `dimensions_of` of refusals/specs/Sheet.)
pub decided_at_its_rate : (j : Job) (lent : Buffers ℕ) → refusal j lent ≡ None
    → outcome j lent ≡ accepted (job_chain j) (job_formula j) (top_rate (job_chain j)) (depth_of (job_chain j) (job_formula j))
decided_at_its_rate j lent h = proved.outcome_by_lem j lent h

-- and each exit rate is the sum of the rates on the state's lines: for until, on those that go to other states; for `X`, on all
module _ (j : Job) (lent : Buffers ℕ) (h : refusal j lent ≡ None) (s : ℕ) where
  pub exit_rates_by_lines : exit_rate (job_chain j) s ≡ rates_out (others (job_moves j)) s
  exit_rates_by_lines = proved.exit_by_lines j lent h s

  pub next_exit_rates_by_lines : next_exit_rate (job_chain j) s ≡ rates_out (job_moves j) s
  next_exit_rates_by_lines = proved.next_exit_by_lines j lent h s

-- "yes when the interval lies wholly on the threshold's true side, no when wholly on the false side, else undecided"; but "for `U` and `X` with
-- thresholds 0 and 1,000,000,000, where no operand state is undecided, the moves now decide the verdict, never undecided" (csl's `Ruled`): at every
-- `P` of every backing, and for the outermost `P` with the ends of the report
pub verdicts_follow : (c : Chain) (f : Formula) (v : ℕ → Verdict) (k : Backed c f v) → SidesThroughout c f v k
verdicts_follow c f v k = theorems.verdicts_follow_at_every_node c f v k

module _ (c : Chain) (r : Comparison) (p : ℕ) (w : Path) (lower upper : ℕ → ℕ) (v : ℕ → Verdict)
    (k : Reported c (chance r p w) lower upper v) (s : ℕ) (in_range : s < c.states) where
  pub reported_verdicts_follow : SidesAt c (theorems.operands c r p w lower upper v k) r p s (lower s) (upper s) (v s)
  reported_verdicts_follow = theorems.verdicts_follow c r p w lower upper v k s in_range

  pub no_other_verdict_follows : (x : Verdict) → SidesAt c (theorems.operands c r p w lower upper v k) r p s (lower s) (upper s) x → v s ≡ x
  no_other_verdict_follows x h = theorems.one_verdict_follows c r p w lower upper v k x s in_range h

  -- where the moves decide, and where they do not: "Ask 5's graph rule leaves two phases to their ends"
  pub never_undecided_by_the_moves : two_phases (theorems.operands c r p w lower upper v k) ≡ false
      → DecidedIn c (theorems.operands c r p w lower upper v k) → (p ≡ 0) ⊎ (p ≡ billion) → Decided (v s)
  never_undecided_by_the_moves i d e = theorems.moves_leave_nothing_undecided c r p w lower upper v k i d e s in_range

  pub elsewhere_by_the_interval : (two_phases (theorems.operands c r p w lower upper v k) ≡ false
      → DecidedIn c (theorems.operands c r p w lower upper v k) → (p ≡ 0) ⊎ (p ≡ billion) → ⊥)
      → Sides (v s) r p (lower s) (upper s)
  elsewhere_by_the_interval n = theorems.verdicts_follow_from_the_intervals c r p w lower upper v k n s in_range

-- and what the moves say, by name: "Until is possible where the second operand holds, or, with time above 0, where states of the first operand,
-- this one included, lead along moves to a state of the second; it is certain only where the second holds. Next is possible where some move
-- enters the operand, and certain where moves exist and all do."
module _ (c : Chain) (r : Comparison) (p t : ℕ) (f g : Formula) (lower upper : ℕ → ℕ) (v : ℕ → Verdict)
    (k : Reported c (chance r p (until t f g)) lower upper v) (i : AllDecided c k.first) (h : AllDecided c k.second) (s : ℕ) (in_range : s < c.states) where
  pub decided_by_what_is_possible : p ≡ 0 → ByPossible r (UntilPossible c t (least k.first) (least k.second) s) (v s)
  decided_by_what_is_possible = (theorems.moves_decide_an_until c r p t f g lower upper v k i h s in_range).0

  pub decided_by_what_is_certain : p ≡ billion → ByCertain r (UntilCertain (least k.second) s) (v s)
  decided_by_what_is_certain = (theorems.moves_decide_an_until c r p t f g lower upper v k i h s in_range).1

module _ (c : Chain) (r : Comparison) (p : ℕ) (f : Formula) (lower upper : ℕ → ℕ) (v : ℕ → Verdict)
    (k : Reported c (chance r p (next_move f)) lower upper v) (i : AllDecided c k.first) (s : ℕ) (in_range : s < c.states) where
  pub decided_by_a_move_that_enters : p ≡ 0 → ByPossible r (Enters c (least k.first) s) (v s)
  decided_by_a_move_that_enters = (theorems.moves_decide_a_next_move c r p f lower upper v k i s in_range).0

  pub decided_by_all_moves_entering : p ≡ billion → ByCertain r (EntersOnly c (least k.first) s) (v s)
  decided_by_all_moves_entering = (theorems.moves_decide_a_next_move c r p f lower upper v k i s in_range).1

-- "A lent order buffer of n 16-bit numbers holds the state numbers in that order after acceptance": every state once, each above the next, and
-- there is no other way to list them so; beyond is unchanged.
module _ (j : Job) (before after : Buffers (List ℕ)) (lower upper : ℕ → ℕ) (v : ℕ → Verdict) (report : TheReport j before after lower upper v) where
  pub order_buffer_is_in_order : InOrder (is_above lower upper) (job_states j) (take (job_states j) after.order)
  order_buffer_is_in_order = proved.order_kept j before after lower upper v report

  pub no_other_order : (l : List ℕ) → InOrder (is_above lower upper) (job_states j) l → l ≡ take (job_states j) after.order
  no_other_order l h = proved.order_alone j before after lower upper v report l h

  pub order_buffer_beyond : drop (job_states j) after.order ≡ drop (job_states j) before.order
  order_buffer_beyond = proved.order_beyond j before after lower upper v report

-- Demand 3. "Every accepted job's report has a backing" (TheReport, above), "and for every backing, at every state: the outermost until's
-- quotient at every depth from D on, for every reading, lies in the interval; width at most 4 × D billionths where no operand state is
-- undecided": of the report of a `P` over any path, whose backing k is any. A value is its quotients from D on, or an exact fraction (csl's
-- `Each`, `value_at`).
module _ (c : Chain) (r : Comparison) (p : ℕ) (w : Path) (lower upper : ℕ → ℕ) (v : ℕ → Verdict)
    (k : Reported c (chance r p w) lower upper v) where
  abbrev pub operands : PathOf (ℕ → Verdict)
  operands = operands_of c w (ChanceKeeps c r p lower upper v) k

  pub every_value_is_enclosed : (x : PathOf (ℕ → Bool)) → Reads c.states operands x → (s : ℕ) → s < c.states
      → Each (λ y. Below (billionths (lower s)) y) (value_at c x s) × Each (λ y. Below y (billionths (upper s))) (value_at c x s)
  every_value_is_enclosed x i s l = theorems.values_lie_in_the_interval c r p w lower upper v k x i s l

  pub every_interval_is_narrow : DecidedIn c operands → (s : ℕ) → s < c.states → upper s ≤ lower s + (meaning c operands).slack
  every_interval_is_narrow i s l = theorems.intervals_are_narrow c r p w lower upper v k i s l

-- and so of an until, with its quotients, its two operands and 4 × D named
module _ (c : Chain) (r : Comparison) (p t : ℕ) (f g : Formula) (lower upper : ℕ → ℕ) (v : ℕ → Verdict)
    (k : Reported c (chance r p (until t f g)) lower upper v) where
  pub every_quotient_is_enclosed : (x y : ℕ → Bool) → Reading c.states k.first x → Reading c.states k.second y
      → (s n : ℕ) → s < c.states → depth c t ≤ n
      → Below (billionths (lower s)) (until_quotient c t x y s n) × Below (until_quotient c t x y s n) (billionths (upper s))
  every_quotient_is_enclosed x y i h s n l d = theorems.quotients_lie_in_the_interval c r p t f g lower upper v k x y i h s n l d

  pub every_interval_of_an_until_is_narrow : AllDecided c k.first → AllDecided c k.second → (s : ℕ) → s < c.states
      → upper s ≤ lower s + width_factor * depth c t
  every_interval_of_an_until_is_narrow i h s l = theorems.intervals_of_an_until_are_narrow c r p t f g lower upper v k i h s l

-- and of a next move, with its fraction, its operand and its two ends named: "no reading puts the fraction outside the interval"; "with a decided
-- operand the width is at most 1"
module _ (c : Chain) (r : Comparison) (p : ℕ) (f : Formula) (lower upper : ℕ → ℕ) (v : ℕ → Verdict)
    (k : Reported c (chance r p (next_move f)) lower upper v) (s : ℕ) (in_range : s < c.states) where
  pub every_fraction_is_enclosed : (x : ℕ → Bool) → Reading c.states k.first x
      → Below (billionths (lower s)) (next_fraction c x s) × Below (next_fraction c x s) (billionths (upper s))
  every_fraction_is_enclosed x i = theorems.fractions_lie_in_the_interval c r p f lower upper v k x i s in_range

  pub every_interval_of_a_next_move_is_narrow : AllDecided c k.first → upper s ≤ lower s + 1
  every_interval_of_a_next_move_is_narrow i = theorems.intervals_of_a_next_move_are_narrow c r p f lower upper v k i s in_range

  pub both_ends_are_determined : (lower s ≡ next_lower c k.first s) × (upper s ≡ next_upper c k.first s)
  both_ends_are_determined = theorems.ends_of_a_next_move c r p f lower upper v k s in_range

-- and of until between two times, with the first above 0, "for each pair of depths from the two phases' own depths on"; their sum "is D in both
-- limits of 4 × D"; "both 0 where the first operand is no, and exact ends with q = 0"
module _ (c : Chain) (r : Comparison) (p t u : ℕ) (f g : Formula) (lower upper : ℕ → ℕ) (v : ℕ → Verdict)
    (k : Reported c (chance r p (between (suc t) u f g)) lower upper v) where
  pub every_pair_is_enclosed : (x y : ℕ → Bool) → Reading c.states k.first x → Reading c.states k.second y
      → (s m n : ℕ) → s < c.states → depth c (suc t) ≤ m → depth c (u - suc t) ≤ n
      → Below (billionths (lower s)) (between_quotient c (suc t) u x y s m n) × Below (between_quotient c (suc t) u x y s m n) (billionths (upper s))
  every_pair_is_enclosed x y i h s m n l d e = theorems.pairs_lie_in_the_interval c r p t u f g lower upper v k x y i h s m n l d e

  pub every_interval_of_two_phases_is_narrow : AllDecided c k.first → AllDecided c k.second → (s : ℕ) → s < c.states
      → upper s ≤ lower s + width_factor * (depth c (suc t) + depth c (u - suc t))
  every_interval_of_two_phases_is_narrow i h s l = theorems.intervals_of_two_phases_are_narrow c r p t u f g lower upper v k i h s l

  pub both_ends_are_0_without_the_first_operand : (s : ℕ) → s < c.states → k.first s ≡ No → (lower s ≡ 0) × (upper s ≡ 0)
  both_ends_are_0_without_the_first_operand s l e = theorems.impossible_in_two_phases c r p t u f g lower upper v k s l e

  pub ends_are_exact_with_q_0 : top_rate c ≡ 0 → (s : ℕ) → s < c.states
      → (lower s ≡ billion * bit (as_no (k.first s) && as_no (k.second s))) × (upper s ≡ billion * bit (as_yes (k.first s) && as_yes (k.second s)))
  ends_are_exact_with_q_0 z s l = theorems.ends_of_two_phases_with_q_0 c r p t u f g lower upper v k z s l

  pub two_phases_are_left_to_their_ends : (s : ℕ) → s < c.states → Sides (v s) r p (lower s) (upper s)
  two_phases_are_left_to_their_ends s l = theorems.intervals_decide_two_phases c r p t u f g lower upper v k s l

-- "With the first time 0 it is `U` with the second": it has that until's reports and no others
pub first_time_0_is_until : (c : Chain) (r : Comparison) (p u : ℕ) (f g : Formula) (lower upper : ℕ → ℕ) (v : ℕ → Verdict)
    → (Reported c (chance r p (between 0 u f g)) lower upper v → Reported c (chance r p (until u f g)) lower upper v)
    × (Reported c (chance r p (until u f g)) lower upper v → Reported c (chance r p (between 0 u f g)) lower upper v)
first_time_0_is_until c r p u f g lower upper v = theorems.first_time_0_is_until c r p u f g lower upper v

-- "every truth table that obeys CSL's rules agrees with each yes and no, nested formulas included; with nothing undecided the verdicts are
-- such a table": of every backing. That of a report is csl's `backing_of`.
module _ (c : Chain) (f : Formula) (v : ℕ → Verdict) (k : Backed c f v) where
  pub every_table_agrees : (table : ℕ → Bool) (o : Obeys c f table) → Throughout c f v table k o
  every_table_agrees table o = theorems.tables_agree_at_every_node c f v table k o

  pub decided_verdicts_are_a_table : NothingUndecided c f v k → (o : Obeys c f (λ s. as_no (v s))) × Throughout c f v (λ s. as_no (v s)) k o
  decided_verdicts_are_a_table d = theorems.decided_verdicts_are_a_table c f v k d

-- so the verdicts that any backing of a report gives the operands of its until, of its next move, and of its until between two times, agree with every such table
module _ (c : Chain) (r : Comparison) (p t : ℕ) (f g : Formula) (lower upper : ℕ → ℕ) (v : ℕ → Verdict)
    (k : Reported c (chance r p (until t f g)) lower upper v) (table : ℕ → Bool) (o : Obeys c (chance r p (until t f g)) table) where
  pub first_operand_agrees : Reading c.states k.first o.first
  unfolding Throughout ThroughoutIn backing_of
  first_operand_agrees =
      agrees_here c f k.first o.first k.first_backed o.first_obeys
      (every_table_agrees c (chance r p (until t f g)) v (backing_of c (chance r p (until t f g)) lower upper v k) table o).1.0

  pub second_operand_agrees : Reading c.states k.second o.second
  unfolding Throughout ThroughoutIn backing_of
  second_operand_agrees =
      agrees_here c g k.second o.second k.second_backed o.second_obeys
      (every_table_agrees c (chance r p (until t f g)) v (backing_of c (chance r p (until t f g)) lower upper v k) table o).1.1

module _ (c : Chain) (r : Comparison) (p : ℕ) (f : Formula) (lower upper : ℕ → ℕ) (v : ℕ → Verdict)
    (k : Reported c (chance r p (next_move f)) lower upper v) (table : ℕ → Bool) (o : Obeys c (chance r p (next_move f)) table) where
  pub operand_agrees : Reading c.states k.first o.first
  unfolding Throughout ThroughoutIn backing_of
  operand_agrees =
      agrees_here c f k.first o.first k.first_backed o.first_obeys
      (every_table_agrees c (chance r p (next_move f)) v (backing_of c (chance r p (next_move f)) lower upper v k) table o).1

module _ (c : Chain) (r : Comparison) (p t u : ℕ) (f g : Formula) (lower upper : ℕ → ℕ) (v : ℕ → Verdict)
    (k : Reported c (chance r p (between t u f g)) lower upper v) (table : ℕ → Bool) (o : Obeys c (chance r p (between t u f g)) table) where
  pub first_operand_between_agrees : Reading c.states k.first o.first
  unfolding Throughout ThroughoutIn backing_of
  first_operand_between_agrees =
      agrees_here c f k.first o.first k.first_backed o.first_obeys
      (every_table_agrees c (chance r p (between t u f g)) v (backing_of c (chance r p (between t u f g)) lower upper v k) table o).1.0

  pub second_operand_between_agrees : Reading c.states k.second o.second
  unfolding Throughout ThroughoutIn backing_of
  second_operand_between_agrees =
      agrees_here c g k.second o.second k.second_backed o.second_obeys
      (every_table_agrees c (chance r p (between t u f g)) v (backing_of c (chance r p (between t u f g)) lower upper v k) table o).1.1
