-- What the functions of until ask and promise. Assumes nothing.
use Rattle.std.specs.Prelude.{◌≡◌, Bool, true, false, cond, ◌&&◌, List, ℕ, ◌+◌, ◌*◌, ◌/◌, ◌^◌, ◌≤◌, ◌<◌, length, leb, eqb}
use Rattle.csl.specs.Limits.{billion, most_states, most_rate, rate_hundredths}
use Rattle.csl.specs.Chain.{sum_to}
use Rattle.csl.specs.Report as report
use Rattle.csl.specs.Laws.Decided.{all_decided}
use Rattle.bounds.specs.Weight.{peak}
use Rattle.bounds.specs.Unit.{unit, one, scale, grain, part}
use Rattle.bounds.specs.Ends.{lower_end}
use Rattle.bounds.specs.StepValues.{pointed, until_lower_of, until_upper_of, most_gap, gap_of, near_upper, started_phase, earlier_lower_of, earlier_upper_of, earlier_gap}
use Rattle.weights.specs.Asked.{most_steps}
use Rattle.vectors.specs.Places.{at, values_from, next_from, sums_from, stays_from, exits_from, weights_from, total_at, number_at, vector_length, next_at, sum_at, stay_at, exit_at, weight_at, total_in, EndsStored}
use Rattle.vectors.specs.Prepared.{Rates, Prepared}
use Rattle.phase.specs.Value.{held_of, stay_of, run_of, value_of}
use Rattle.phase.specs.Load.{load_depth, Loaded, WeighAsked}
use Rattle.phase.specs.Ends.{whole_of, upper_from}
use Rattle.until.specs.Reading.{verdicts, read_as, read_phase, low_phase, high_phase, end_of, value_from}

-- an exit rate and q
pub record StaysAsked (q exit : ℕ) : Type 0 where
  pub slow : exit ≤ q
  pub small : q ≤ most_rate

-- the ends of n states are to be written by a row of verdict bytes
pub record RowAsked (l row : List ℕ) (n : ℕ) : Type 0 where
  pub states : n ≤ most_states
  pub room : values_from n ≤ length l
  pub in_row : n ≤ length row

-- those that the verdicts of the row stand for
abbrev pub Still : (second : List ℕ) (n : ℕ) → (old new : List ℕ) → Type 0
Still second n old new = EndsStored (λ s. report.lower_of (verdicts second s)) (λ s. report.upper_of (verdicts second s)) n old new

-- those that stood there where the row's verdict holds, and 0 elsewhere
abbrev pub Restricted : (first : List ℕ) (n : ℕ) → (old new : List ℕ) → Type 0
Restricted first n old new =
    EndsStored (λ s. cond (read_as false (verdicts first s)) (at old s) 0) (λ s. cond (read_as true (verdicts first s)) (at old (n + s)) 0) n old new

-- the two ends of each of n states stand in their places, none above 1, beside two rows of verdict bytes
pub record EndsAsked (l first second : List ℕ) (n : ℕ) : Type 0 where
  pub states : n ≤ most_states
  pub room : values_from n ≤ length l
  pub in_first : n ≤ length first
  pub in_second : n ≤ length second
  pub small : (b : Bool) (s : ℕ) → s < n → end_of b l n s ≤ billion

-- the intervals that the two operands' verdicts leave of them
abbrev pub Pointed : (first second : List ℕ) (n : ℕ) → (old new : List ℕ) → Type 0
Pointed first second n old new =
    EndsStored (λ s. pointed (verdicts first s) (verdicts second s) (at old s)) (λ s. pointed (verdicts first s) (verdicts second s) (at old (n + s))) n
    old new

-- how far apart the two ends are at most; more than is near where a byte of either row is undecided
abbrev pub start_gap : (l first second : List ℕ) (n : ℕ) → ℕ
start_gap l first second n = gap_of (all_decided n (verdicts first) && all_decided n (verdicts second)) (at l) (λ s. at l (n + s)) n

-- what values of the lower start may lack, in units, where they serve both ends
abbrev pub error_of : ℕ → ℕ
error_of gap = cond (leb gap most_gap) (unit * gap) 0

-- the start vector of a phase, from the ends, and what stays put, to be written
pub record LayAsked (l first second : List ℕ) (n q : ℕ) : Type 0 where
  pub ends : EndsAsked l first second n
  pub long : vector_length n ≤ length l
  pub exits : (s : ℕ) → s < n → StaysAsked q (exit_at l n s)

-- they stand in their columns, and all other words are as they were
pub record Laid (first second : List ℕ) (n q : ℕ) (b : Bool) (l₀ l : List ℕ) : Type 0 where
  pub same : length l ≡ length l₀
  pub values : (s : ℕ) → s < n → next_at l n s ≡ unit * end_of b l₀ n s
  pub stays : (s : ℕ) → s < n → stay_at l n s ≡ stay_of q (exit_at l₀ n s) (held_of (read_phase b first second) s)
  pub before : (k : ℕ) → k < next_from n → at l k ≡ at l₀ k
  pub between : (k : ℕ) → sums_from n ≤ k → k < stays_from n → at l k ≡ at l₀ k
  pub after : (k : ℕ) → exits_from n ≤ k → at l k ≡ at l₀ k

-- the sum over steps 0 to last of weight times value of a reading's phase; the weights, and the ends that it starts from, are those of the list
abbrev pub sum_from : (mv first second l : List ℕ) (n q last : ℕ) → Bool → ℕ → ℕ
sum_from mv first second l n q last b s = sum_to (λ i. part (weight_at l n i) (value_from mv first second l n q b i s)) (last + 1)

-- such sums are to be worked out
pub record ReadAsked (mv l first second : List ℕ) (n q last : ℕ) : Type 0 where
  pub rates : Rates mv l n q
  pub some : 0 < q
  pub ends : EndsAsked l first second n
  pub limit : last < most_steps
  pub room : weights_from n + last < total_at n
  pub weights : (k : ℕ) → k ≤ last → weight_at l n k ≤ peak

-- sums stand in their column; the ends, and all from the exit rates on but the step number, are as they were
pub record SumsStored (sum : ℕ → ℕ) (n : ℕ) (l₀ l : List ℕ) : Type 0 where
  pub same : length l ≡ length l₀
  pub sums : (s : ℕ) → s < n → sum_at l n s ≡ sum s
  pub before : (k : ℕ) → k < values_from n → at l k ≡ at l₀ k
  pub after : (k : ℕ) → exits_from n ≤ k → (k ≡ number_at n → ⊥) → at l k ≡ at l₀ k

-- those of a reading; those with undecided read as yes, unless the starts are near
abbrev pub Read : (mv first second : List ℕ) (n q last : ℕ) (b : Bool) → (l₀ l : List ℕ) → Type 0
Read mv first second n q last b l₀ l = SumsStored (sum_from mv first second l₀ n q last b) n l₀ l

abbrev pub ReadUnless : (mv first second : List ℕ) (n q last gap : ℕ) → (l₀ l : List ℕ) → Type 0
ReadUnless mv first second n q last gap l₀ l =
    SumsStored (λ s. cond (leb gap most_gap) (sum_at l₀ n s) (sum_from mv first second l₀ n q last true s)) n l₀ l

-- Both ends are to be made from weights that stand in the words, with their total: values of at most 1 sum up to no more than that.
pub record BothAsked (mv l first second : List ℕ) (n q last : ℕ) : Type 0 where
  pub read : ReadAsked mv l first second n q last
  pub some : 0 < total_in l n
  pub divisor : total_in l n < 2 ^ 52
  pub most : (v : ℕ → ℕ) → ((k : ℕ) → v k ≤ one) → sum_to (λ k. part (weight_at l n k) (v k)) (last + 1) * grain ≤ total_in l n * one

-- the upper end that the sums of both readings give: those of the lower start with the gap as their error where it is near
abbrev pub upper_by : (mv first second l : List ℕ) (n q last gap : ℕ) → ℕ → ℕ
upper_by mv first second l n q last gap s =
    cond (leb gap most_gap) (upper_from (sum_from mv first second l n q last false s) (total_in l n) (whole_of l n last (unit * gap)))
    (upper_from (sum_from mv first second l n q last true s) (total_in l n) (whole_of l n last 0))

-- the intervals' ends stand in their places; all from the exit rates on but the step number is as it was
pub record Both (mv first second : List ℕ) (n q last : ℕ) (old new : List ℕ) : Type 0 where
  pub same : length new ≡ length old
  pub lowers : (s : ℕ) → s < n → at new s ≡ pointed (verdicts first s) (verdicts second s)
      (sum_from mv first second old n q last false s * scale / total_in old n)
  pub uppers : (s : ℕ) → s < n → at new (n + s) ≡ pointed (verdicts first s) (verdicts second s)
      (upper_by mv first second old n q last (start_gap old first second n) s)
  pub after : (k : ℕ) → exits_from n ≤ k → (k ≡ number_at n → ⊥) → at new k ≡ at old k

-- a load above 0, of a hundred-millionths, is to be summed over
pub record SummedAsked (mv l first second : List ℕ) (n q a depth : ℕ) : Type 0 where
  pub prepared : Prepared mv l n q
  pub some : 0 < q
  pub weigh : WeighAsked l n a depth
  pub ends : EndsAsked l first second n

-- the ends that the values of both readings sum up to, from starts that are so far apart: the upper one and the lower one
abbrev pub end_by : Bool → (a depth gap : ℕ) → (low high : ℕ → ℕ) → ℕ
end_by true a depth gap low high = near_upper a rate_hundredths depth gap low high
end_by false a depth gap low high = lower_end a rate_hundredths (a / rate_hundredths) depth low

-- that of a state, in a phase that starts from the ends of a list
abbrev pub summed_end : (mv first second l : List ℕ) (n q a depth : ℕ) → Bool → ℕ → ℕ
summed_end mv first second l n q a depth b s =
    pointed (verdicts first s) (verdicts second s)
    (end_by b a depth (start_gap l first second n) (λ k. value_from mv first second l n q false k s) (λ k. value_from mv first second l n q true k s))

-- the two ends stand in their places, and no other word is changed
abbrev pub Summed : (mv first second : List ℕ) (n q a depth : ℕ) → (old new : List ℕ) → Type 0
Summed mv first second n q a depth old new =
    EndsStored (summed_end mv first second old n q a depth false) (summed_end mv first second old n q a depth true) n old new

-- a phase over t hundredths of an hour is to be worked out in prepared words, from the ends that stand there
pub record PhaseAsked (mv l first second : List ℕ) (n q t : ℕ) : Type 0 where
  pub prepared : Prepared mv l n q
  pub load : Loaded n (q * t)
  pub ends : EndsAsked l first second n

-- the end of a state after it, which with load 0 is the one that it started from
abbrev pub phase_end : (mv first second l : List ℕ) (n q a : ℕ) → Bool → ℕ → ℕ
phase_end mv first second l n q a b s = cond (eqb a 0) (end_of b l n s) (summed_end mv first second l n q a (load_depth a) b s)

-- the two ends stand in their places, and no other word is changed
pub record Phased (mv first second : List ℕ) (n q t : ℕ) (old new : List ℕ) (depth : ℕ) : Type 0 where
  pub deep : depth ≡ load_depth (q * t)
  pub ends : EndsStored (phase_end mv first second old n q (q * t) false) (phase_end mv first second old n q (q * t) true) n old new

-- an until over t hundredths of an hour is to be worked out in prepared words, from two rows of verdict bytes
pub record UntilAsked (mv l first second : List ℕ) (n q t : ℕ) : Type 0 where
  pub prepared : Prepared mv l n q
  pub load : Loaded n (q * t)
  pub in_first : n ≤ length first
  pub in_second : n ≤ length second

-- the two ends at a state
abbrev pub lower_until : (mv first second : List ℕ) (q t : ℕ) → ℕ → ℕ
lower_until mv first second q t s =
    until_lower_of (q * t) rate_hundredths (load_depth (q * t)) (verdicts first s) (verdicts second s) (λ k. value_of mv (length mv) q (low_phase first second) k s)

abbrev pub upper_until : (mv first second : List ℕ) (q t : ℕ) → ℕ → ℕ
upper_until mv first second q t s =
    until_upper_of (q * t) rate_hundredths (load_depth (q * t)) (verdicts first s) (verdicts second s) (λ k. value_of mv (length mv) q (high_phase first second) k s)

-- they stand in their places, and no other word is changed
pub record Until (mv first second : List ℕ) (n q t : ℕ) (old new : List ℕ) (depth : ℕ) : Type 0 where
  pub deep : depth ≡ load_depth (q * t)
  pub ends : EndsStored (lower_until mv first second q t) (upper_until mv first second q t) n old new

-- the phase before an until that begins after t hundredths of an hour, whose ends stand in prepared words: in that phase no state is a goal
pub record EarlierAsked (mv l first none : List ℕ) (n q t : ℕ) : Type 0 where
  pub prepared : Prepared mv l n q
  pub load : Loaded n (q * t)
  pub in_first : n ≤ length first
  pub in_none : n ≤ length none
  pub no_goal : (s : ℕ) → s < n → at none s ≡ 0
  pub lowers : (s : ℕ) → s < n → at l s ≤ billion
  pub uppers : (s : ℕ) → s < n → at l (n + s) ≤ billion

-- the value of state s at step k of a phase that starts from x billionths where `holds` says so
abbrev pub started_value : (mv : List ℕ) (q : ℕ) (holds : ℕ → Bool) (x : ℕ → ℕ) → ℕ → ℕ → ℕ
started_value mv q holds x = run_of mv (length mv) q (λ i. unit * cond (holds i) (x i) 0) (held_of (started_phase holds x))

-- the two ends at a state, from those of the until that follows
abbrev pub lower_earlier : (mv first l : List ℕ) (n q t : ℕ) → ℕ → ℕ
lower_earlier mv first l n q t s =
    earlier_lower_of (q * t) rate_hundredths (load_depth (q * t)) (verdicts first s) (at l s)
    (λ k. started_value mv q (λ i. read_as false (verdicts first i)) (at l) k s)

abbrev pub upper_earlier : (mv first l : List ℕ) (n q t : ℕ) → ℕ → ℕ
upper_earlier mv first l n q t s =
    earlier_upper_of (q * t) rate_hundredths (load_depth (q * t)) (earlier_gap n (verdicts first) (at l) (λ i. at l (n + i))) (verdicts first s) (at l (n + s))
    (λ k. started_value mv q (λ i. read_as false (verdicts first i)) (at l) k s)
    (λ k. started_value mv q (λ i. read_as true (verdicts first i)) (λ i. at l (n + i)) k s)

-- they stand in their places, and no other word is changed
pub record Earlier (mv first : List ℕ) (n q t : ℕ) (old new : List ℕ) (depth : ℕ) : Type 0 where
  pub deep : depth ≡ load_depth (q * t)
  pub ends : EndsStored (lower_earlier mv first old n q t) (upper_earlier mv first old n q t) n old new
