-- Document 01's bench values, and those of the requests: the jobs, and what is said of them. `Laws.Bench` shows it. Assumes nothing.
use Rattle.std.specs.Prelude.{◌≡◌, Bool, true, ℕ, zero, suc, ◌+◌, ◌*◌, ◌%◌, ◌≤◌, List, [], ◌∷◌, ◌++◌, leb, eqb, replicate, None, Some}
use Prim.Native.String.{String}
use Rattle.csl.specs.Text.{Text, bytes}
use Rattle.csl.specs.Limits.{most_nodes, hour, most_hundredths, most_rate_hundredths, rate_hundredths}
use Rattle.csl.specs.Formula.{Formula, always, label, negated, both, chance, Path, until, next_move, between, Less, AtMost, AtLeast, More}
use Rattle.csl.specs.Fraction.{Fraction, frac, Same}
use Rattle.csl.specs.Sheet.{sheet_of}
use Rattle.csl.specs.Chain.{Chain, chain_of}
use Rattle.csl.specs.Verdicts.{Verdict, Yes, marked, negation}
use Rattle.csl.specs.Until.{until_quotient}
use Rattle.csl.specs.Between.{between_quotient}
use Rattle.csl.specs.Backing.{AtEach}
use Rattle.csl.specs.Report.{Reported, report_text, depth_of}
use Rattle.csl.specs.Order.{worst_first}
use Rattle.csl.specs.Lent.{Buffers, needed, lengths, filled}
use Rattle.csl.specs.Refusal.{Job, job_states, job_chain, job_formula, refusal, outcome, accepted}
use Rattle.csl.specs.Copy.{copy_text, copy_refusal, copied, Copied}
use Rattle.csl.specs.Import.{Files, imported_moves, imported_labels, import_refusal, imported, Imported}

-- a job over the labels of the small sheet
abbrev pub job_of : String → String → Job
job_of moves formula =
    record { moves = bytes moves; labels = bytes "state,up,dead\n0,1,0\n1,0,1\n"; formula = bytes formula }

-- "labels `state,up,dead` / `0,1,0` / `1,0,1`, moves `from,to,rate` / `0,1,500` .. Call these two texts the small sheet."
abbrev pub small : String → Job
small formula = job_of "from,to,rate\n0,1,500\n" formula

-- "q 64,000,000"; "No moves"
abbrev pub fast : String → Job
fast formula = job_of "from,to,rate\n0,1,64000000\n" formula

abbrev pub still : String → Job
still formula = job_of "from,to,rate\n" formula

abbrev pub up : Formula
up = label (bytes "up")

abbrev pub dead : Formula
dead = label (bytes "dead")

-- 8 hours, in hundredths
abbrev pub eight : ℕ
eight = 8 * hour

-- "A tool's restart is a move to its own state": the rate to the own state, and perhaps one to the other
abbrev pub restarts : String → Job
restarts formula = job_of "from,to,rate\n0,0,2\n0,1,1\n" formula

abbrev pub only_restarts : String → Job
only_restarts formula = job_of "from,to,rate\n0,0,64000000\n" formula

-- lent lengths that do for two states, five move lines and any formula
abbrev pub enough : Buffers ℕ
enough = needed 2 5 most_nodes

-- the buffers for the small sheet, with this order buffer, these move words and these marks
abbrev pub lent_with : (order moves marks : List ℕ) → Buffers (List ℕ)
lent_with order moves marks =
    record {
      lower = replicate 2 7;
      upper = replicate 2 7;
      verdicts = replicate 2 7;
      order = order;
      moves = moves;
      vectors = replicate 532 7;
      marks = marks;
    }

-- with marks for one node
abbrev pub lent_as : (order moves : List ℕ) → Buffers (List ℕ)
lent_as order moves = lent_with order moves (replicate 2 7)

-- with so many marks
abbrev pub lent_marks : ℕ → Buffers (List ℕ)
lent_marks k = lent_with (replicate 2 7) (replicate 2 7) (replicate k 7)

-- accepted, with this formula, q and depth
abbrev pub Accepts : Job → Formula → ℕ → ℕ → Type 0
Accepts j f q d = outcome j enough ≡ accepted (job_chain j) f q d

abbrev pub Refuses : Job → ℕ → Type 0
Refuses j number = refusal j enough ≡ Some number

-- over the labels of the small sheet, a moves text has this copy
abbrev pub Copies : String → String → Type 0
Copies moves copy = copy_text (bytes moves) (job_of moves "").labels ≡ bytes copy

-- PRISM's two files, and what becomes of them where buffers of 100 bytes are lent
abbrev pub files_of : String → String → Files
files_of transitions labels = record { transitions = bytes transitions; labels = bytes labels }

abbrev pub Imports : Files → String → String → Type 0
Imports f moves labels = (import_refusal f 100 100 ≡ None) × (imported_moves f ≡ bytes moves) × (imported_labels f ≡ bytes labels)

abbrev pub Declines : Files → ℕ → Type 0
Declines f number = import_refusal f 100 100 ≡ Some number

-- a transition file of two states and a move, and the labels that it is imported with
abbrev pub moving : String → Files
moving labels = files_of "2 1\n0 1 5\n" labels

-- a label file of two names, and the transitions that it is imported with
abbrev pub named : String → Files
named transitions = files_of transitions "0=\"up\" 1=\"dead\"\n0: 0\n1: 1\n"

-- the line of names
abbrev pub line_of_names : Text
line_of_names = bytes "state,lower,upper,depth,verdict\n"

-- every report that has a backing is printed so: the rows of its first listing and those of its second
abbrev pub Prints : Job → String → String → Type 0
Prints j first second = (lower upper : ℕ → ℕ) (v : ℕ → Verdict) → Reported (job_chain j) (job_formula j) lower upper v
    → report_text (job_states j) lower upper (depth_of (job_chain j) (job_formula j)) v ≡ line_of_names ++ bytes first ++ line_of_names ++ bytes second

-- so many `!` before a formula
unfoldable pub negated_times : ℕ → Formula → Formula
negated_times zero f = f
negated_times (suc k) f = negated (negated_times k f)

-- The starred values.
pub record BenchValues : Type 0 where
  -- "The small sheet as printed above."
  pub small_accepted : Accepts (small "P >= 1000000000 U 0 up dead\n") (chance AtLeast 1000000000 (until 0 up dead)) 500 40
  pub small_printed : Prints (small "P >= 1000000000 U 0 up dead\n")
      "0,0,0,40,no\n1,1000000000,1000000000,40,yes\n" "1,1000000000,1000000000,40,yes\n0,0,0,40,no\n"
  -- "`tt`: yes twice, depth 0." "`& up ! dead`: yes, no."
  pub tt_accepted : Accepts (small "tt\n") always 500 0
  pub tt_printed : Prints (small "tt\n")
      "0,1000000000,1000000000,0,yes\n1,1000000000,1000000000,0,yes\n" "0,1000000000,1000000000,0,yes\n1,1000000000,1000000000,0,yes\n"
  pub both_accepted : Accepts (small "& up ! dead\n") (both up (negated dead)) 500 0
  pub both_printed : Prints (small "& up ! dead\n")
      "0,1000000000,1000000000,0,yes\n1,0,0,0,no\n" "0,1000000000,1000000000,0,yes\n1,0,0,0,no\n"
  -- "`P <= 10000000 U 8 up dead`: .. depth 42"
  pub eight_hours : Accepts (small "P <= 10000000 U 8 up dead\n") (chance AtMost 10000000 (until eight up dead)) 500 42
  -- "q 64,000,000 and 1 hour: depth 168. 2 hours: 14."
  pub full_load : Accepts (fast "P >= 5 U 1 up dead\n") (chance AtLeast 5 (until hour up dead)) 64000000 168
  pub over_load : Refuses (fast "P >= 5 U 2 up dead\n") 14
  -- "No moves, 8,760 hours: q = 0, depth 40, ends 0 or 1,000,000,000."
  pub no_moves : Accepts (still "P >= 5 U 8760 up dead\n") (chance AtLeast 5 (until (8760 * hour) up dead)) 0 40
  pub no_moves_printed : Prints (still "P >= 5 U 8760 up dead\n")
      "0,0,0,40,no\n1,1000000000,1000000000,40,yes\n" "1,1000000000,1000000000,40,yes\n0,0,0,40,no\n"
  -- "15 `!` before `up`: accepted. 16: 11."
  pub fifteen : Accepts (small "! ! ! ! ! ! ! ! ! ! ! ! ! ! ! up\n") (negated_times 15 up) 500 0
  pub sixteen : Refuses (small "! ! ! ! ! ! ! ! ! ! ! ! ! ! ! ! up\n") 11
  -- "`P >= 0 U 1 up dead`: yes everywhere", and so on every chain, for all paths
  pub at_least_0_accepted : Accepts (small "P >= 0 U 1 up dead\n") (chance AtLeast 0 (until hour up dead)) 500 42
  pub at_least_0 : (c : Chain) (w : Path) (lower upper : ℕ → ℕ) (v : ℕ → Verdict)
      → Reported c (chance AtLeast 0 w) lower upper v → AtEach c λ s. v s ≡ Yes

-- Hours with decimals, over the small sheet and with q 64,000,000, and the numbers of the request.
pub record DecimalHours : Type 0 where
  -- "`8.25` and `8.5` are good"; so are hours below 1
  pub quarter : Accepts (small "P >= 5 U 8.25 up dead\n") (chance AtLeast 5 (until 825 up dead)) 500 42
  pub half : Accepts (small "P >= 5 U 8.5 up dead\n") (chance AtLeast 5 (until 850 up dead)) 500 42
  pub zero_inside : Accepts (small "P >= 5 U 8.05 up dead\n") (chance AtLeast 5 (until 805 up dead)) 500 42
  pub minutes : Accepts (small "P >= 5 U 0.05 up dead\n") (chance AtLeast 5 (until 5 up dead)) 500 42
  -- "`8.50` breaks the grammar"; so does whatever else is not one or two decimals behind a number
  pub trailing_zero : Refuses (small "P >= 5 U 8.50 up dead\n") 10
  pub only_zero : Refuses (small "P >= 5 U 8.0 up dead\n") 10
  pub no_decimal : Refuses (small "P >= 5 U 8. up dead\n") 10
  pub no_number : Refuses (small "P >= 5 U .5 up dead\n") 10
  pub leading_zero : Refuses (small "P >= 5 U 00.5 up dead\n") 10
  pub three_decimals : Refuses (small "P >= 5 U 8.125 up dead\n") 10
  pub two_points : Refuses (small "P >= 5 U 8.2.5 up dead\n") 10
  pub threshold : Refuses (small "P >= 5.5 U 8 up dead\n") 10
  -- "the 10 digits count before the point"; "the top is 8,760 hours as before"
  pub eleven_digits : Refuses (small "P >= 5 U 10000000000.5 up dead\n") 10
  pub ten_digits : Refuses (small "P >= 5 U 9999999999.99 up dead\n") 13
  pub over_the_top : Refuses (small "P >= 5 U 8760.01 up dead\n") 13
  pub most_hundredths_is : most_hundredths ≡ 876000
  -- "14 compares q × hundredths with 6,400,000,000"
  pub over_load : Refuses (fast "P >= 5 U 1.01 up dead\n") 14
  pub most_rate_hundredths_is : most_rate_hundredths ≡ 6400000000
  -- "The load is q × hundredths / 100,000,000": loads of 32 and of 1.28
  pub half_load : Accepts (fast "P >= 5 U 0.5 up dead\n") (chance AtLeast 5 (until 50 up dead)) 64000000 104
  pub load_rounded_up : Accepts (fast "P >= 5 U 0.02 up dead\n") (chance AtLeast 5 (until 2 up dead)) 64000000 44
  pub rate_hundredths_is : rate_hundredths ≡ 100000000

-- The next move, over the small sheet and over sheets with moves to the own state.
pub record NextMoves : Type 0 where
  -- "a path formula may also be `X` and a state formula"; "depth is 0"
  pub next : Accepts (small "P >= 333333334 X dead\n") (chance AtLeast 333333334 (next_move dead)) 500 0
  pub next_printed : Prints (small "P >= 333333334 X dead\n")
      "0,1000000000,1000000000,0,yes\n1,0,0,0,no\n" "0,1000000000,1000000000,0,yes\n1,0,0,0,no\n"
  pub within_until : Accepts (small "P >= 5 U 8 up P > 5 X dead\n") (chance AtLeast 5 (until eight up (chance More 5 (next_move dead)))) 500 42
  pub around_until : Accepts (small "P > 5 X P < 5 U 8 up dead\n") (chance More 5 (next_move (chance Less 5 (until eight up dead)))) 500 0
  pub two_operands : Refuses (small "P < 1 X dead up\n") 10
  pub no_operand : Refuses (small "P < 1 X\n") 10
  pub hours : Refuses (small "P < 1 X 8 dead\n") 10
  pub no_threshold : Refuses (small "X dead\n") 10
  -- its threshold is tested by 13, and there is no 14
  pub high_threshold : Refuses (small "P < 1000000001 X dead\n") 13
  pub fast_sheet : Accepts (fast "P >= 5 X dead\n") (chance AtLeast 5 (next_move dead)) 64000000 0
  -- moves to the own state "are now read and stored", and "count in the exit rate for `X`": one third, "rounded down", "rounded up"
  pub restart : Accepts (restarts "P >= 333333334 X dead\n") (chance AtLeast 333333334 (next_move dead)) 1 0
  pub restart_printed : Prints (restarts "P >= 333333334 X dead\n")
      "0,333333333,333333334,0,undecided\n1,0,0,0,no\n" "0,333333333,333333334,0,undecided\n1,0,0,0,no\n"
  -- "Until leaves them out of exit rates and q": out of the load, and of 14
  pub until_restart : Accepts (restarts "P < 1 U 1 up dead\n") (chance Less 1 (until hour up dead)) 1 42
  pub only_restarts_lem : Accepts (only_restarts "P < 1 U 8760 up dead\n") (chance Less 1 (until (8760 * hour) up dead)) 0 40
  pub only_restarts_printed : Prints (only_restarts "P < 1 U 8760 up dead\n")
      "0,0,0,40,yes\n1,1000000000,1000000000,40,no\n" "1,1000000000,1000000000,40,no\n0,0,0,40,yes\n"
  -- they count "in 9's sum", and in 6 like any move
  pub high_sum : Refuses (job_of "from,to,rate\n0,0,64000000\n0,1,1\n" "tt\n") 9
  pub strange_restart : Refuses (job_of "from,to,rate\n2,2,1\n" "tt\n") 6

-- The second listing and the order buffer, over the small sheet; its printed rows are above.
pub record SecondListing : Type 0 where
  -- "by falling lower end, equal ones by rising state number"
  pub falling : worst_first (λ s. s) (λ s. 5) 4 ≡ 3 ∷ 2 ∷ 1 ∷ 0 ∷ []
  pub equal_ones : worst_first (λ s. 5) (λ s. s) 4 ≡ 0 ∷ 1 ∷ 2 ∷ 3 ∷ []
  pub both : worst_first (λ s. s % 2) (λ s. s) 4 ≡ 1 ∷ 3 ∷ 0 ∷ 2 ∷ []
  -- "A lent order buffer of n 16-bit numbers holds the state numbers in that order after acceptance", and beyond is unchanged
  pub order_holds : (filled 2 1 1 (λ s. s) (λ s. s) (λ s. Yes) (lent_as (7 ∷ 7 ∷ 7 ∷ []) (7 ∷ 7 ∷ []))).order ≡ 1 ∷ 0 ∷ 7 ∷ []
  -- "15 covers it too"
  pub order_short : refusal (small "tt\n") (lengths (lent_as (7 ∷ []) (7 ∷ 7 ∷ []))) ≡ Some 15
  pub order_long : refusal (small "tt\n") (lengths (lent_as (7 ∷ 7 ∷ []) (7 ∷ 7 ∷ []))) ≡ None

-- three states, one after the other, that are left once in a million hours; the second is up or not
abbrev pub in_turn : (second formula : String) → Job
in_turn second formula =
    record {
      moves = bytes "from,to,rate\n0,1,1\n1,2,1\n";
      labels = bytes "state,up,dead\n0,1,0\n1," ++ bytes second ++ bytes ",0\n2,0,1\n";
      formula = bytes formula;
    }

-- the verdicts of every report that has a backing
abbrev pub Decides : Job → (ℕ → Verdict) → Type 0
Decides j x = (lower upper : ℕ → ℕ) (v : ℕ → Verdict) → Reported (job_chain j) (job_formula j) lower upper v → AtEach (job_chain j) λ s. v s ≡ x s

-- yes at the states from this one on
abbrev pub yes_from : ℕ → ℕ → Verdict
yes_from n s = marked (leb n s)

-- What the moves decide.
pub record PossibleAndCertain : Type 0 where
  -- "must not end undecided because the chance is under a billionth": two moves of a millionth an hour within a hundredth of one
  pub under_a_billionth : Decides (in_turn "1" "P > 0 U 0.01 up dead\n") (yes_from 0)
  -- "states of the first operand, this one included", "with time above 0"
  pub first_operand_fails : Decides (in_turn "0" "P > 0 U 8760 up dead\n") (yes_from 2)
  pub no_time : Decides (in_turn "1" "P > 0 U 0 up dead\n") (yes_from 2)
  -- "certain only where the second holds", though every path comes there
  pub not_at_once : Decides (in_turn "1" "P >= 1000000000 U 8760 up dead\n") (yes_from 2)
  -- "some move enters the operand"; "moves exist and all do", and none leaves the last state
  pub no_move_enters : Decides (in_turn "1" "P <= 0 X dead\n") (λ s. negation (marked (eqb s 1)))
  pub all_moves_enter : Decides (in_turn "1" "P < 1000000000 X up\n") (yes_from 1)
  -- "the move words lent grow to 2 × m": 15 with fewer, and zeros in so many after acceptance
  pub words_short : refusal (small "tt\n") (lengths (lent_as (7 ∷ 7 ∷ []) (7 ∷ []))) ≡ Some 15
  pub words_long : refusal (small "tt\n") (lengths (lent_as (7 ∷ 7 ∷ []) (7 ∷ 7 ∷ []))) ≡ None
  pub words_zero : (filled 2 1 1 (λ s. s) (λ s. s) (λ s. Yes) (lent_as (7 ∷ 7 ∷ []) (7 ∷ 7 ∷ 7 ∷ []))).moves ≡ 0 ∷ 0 ∷ 7 ∷ []

-- Until between two times, over the small sheet, with q 64,000,000 and without moves.
pub record NotBeforeAnHour : Type 0 where
  -- "a path formula may be `V` with two times and two state formulas"; "the printed depth is their sum"
  pub two_phases_lem : Accepts (small "P >= 5 V 1 8 up dead\n") (chance AtLeast 5 (between hour eight up dead)) 500 84
  pub quarters : Accepts (small "P >= 5 V 0.25 8.25 up dead\n") (chance AtLeast 5 (between 25 825 up dead)) 500 84
  pub within_until : Accepts (small "P >= 5 U 8 up P > 5 V 1 8 up dead\n") (chance AtLeast 5 (until eight up (chance More 5 (between hour eight up dead)))) 500 42
  pub around_until : Accepts (small "P > 5 V 1 8 up P < 5 U 8 up dead\n") (chance More 5 (between hour eight up (chance Less 5 (until eight up dead)))) 500 84
  pub one_time : Refuses (small "P < 1 V 8 up dead\n") 10
  pub one_operand : Refuses (small "P < 1 V 1 8 dead\n") 10
  -- "With the first time 0 it is `U` with the second", in depth and in 14
  pub first_time_0 : Accepts (small "P >= 5 V 0 8 up dead\n") (chance AtLeast 5 (between 0 eight up dead)) 500 42
  pub over_load_from_0 : Refuses (fast "P >= 5 V 0 1.01 up dead\n") 14
  -- equal times above 0 are two phases too, the later of load 0
  pub equal_times : Accepts (small "P >= 5 V 8 8 up dead\n") (chance AtLeast 5 (between eight eight up dead)) 500 82
  -- 13 tests both times; "16 when the first time exceeds the second, tested after 13 and before 14", on the whole formula
  pub first_time_over : Refuses (small "P < 1 V 9000 1 up dead\n") 13
  pub second_time_over : Refuses (small "P < 1 V 1 9000 up dead\n") 13
  pub first_exceeds_second : Refuses (small "P < 1 V 8 1 up dead\n") 16
  pub before_14 : Refuses (fast "& P < 1 U 5 up dead P < 1 V 3 1 up dead\n") 16
  -- "14 tests each phase"
  pub full_loads : Accepts (fast "P >= 5 V 1 2 up dead\n") (chance AtLeast 5 (between hour (2 * hour) up dead)) 64000000 336
  pub earlier_over_load : Refuses (fast "P >= 5 V 1.01 1.5 up dead\n") 14
  pub later_over_load : Refuses (fast "P >= 5 V 1 2.01 up dead\n") 14
  -- "both 0 where the first operand is no, and exact ends with q = 0": dead from the start, and not before
  pub no_moves : Accepts (still "P >= 5 V 1 8 tt dead\n") (chance AtLeast 5 (between hour eight always dead)) 0 80
  pub no_moves_printed : Prints (still "P >= 5 V 1 8 tt dead\n")
      "0,0,0,80,no\n1,1000000000,1000000000,80,yes\n" "1,1000000000,1000000000,80,yes\n0,0,0,80,no\n"
  pub first_operand_fails : Prints (still "P >= 5 V 1 8 up dead\n") "0,0,0,80,no\n1,0,0,80,no\n" "0,0,0,80,no\n1,0,0,80,no\n"

-- Moves in any order, and copies of them, over the labels of the small sheet.
pub record AnyOrder : Type 0 where
  -- "lines may stand in any order and repeated pairs are added together; 8 is never given again": a sheet whose rates are those of `restarts`
  pub added_together : Accepts (job_of "from,to,rate\n0,1,1\n0,0,1\n0,0,1\n" "P >= 333333334 X dead\n") (chance AtLeast 333333334 (next_move dead)) 1 0
  pub falling : Accepts (job_of "from,to,rate\n1,0,5\n0,1,500\n" "P <= 10000000 U 8 up dead\n") (chance AtMost 10000000 (until eight up dead)) 500 42
  -- "9 looks at each line's rate and at the totals": 0 in a line though its pair has a rate; over 64,000,000 in one line, or in two together
  pub no_rate : Refuses (job_of "from,to,rate\n0,1,5\n0,1,0\n" "tt\n") 9
  pub one_line_over : Refuses (job_of "from,to,rate\n0,1,64000001\n" "tt\n") 9
  pub two_lines_over : Refuses (job_of "from,to,rate\n0,1,64000000\n1,0,1\n0,1,1\n" "tt\n") 9
  pub two_lines_full : Accepts (job_of "from,to,rate\n0,1,63999999\n0,1,1\n" "P >= 5 U 1 up dead\n") (chance AtLeast 5 (until hour up dead)) 64000000 168
  -- 15 counts lines
  pub lines_counted : refusal (job_of "from,to,rate\n0,1,250\n0,1,250\n" "tt\n") (lengths (lent_as (7 ∷ 7 ∷ []) (replicate 3 7))) ≡ Some 15
  -- "the moves text that document 01 described, moves to the own state included, pairs rising and none twice"
  pub copy : Copies "from,to,rate\n1,0,5\n0,1,20\n0,1,30\n1,1,4\n1,0,95\n" "from,to,rate\n0,1,50\n1,0,100\n1,1,4\n"
  pub copy_of_a_copy : Copies "from,to,rate\n0,1,50\n1,0,100\n1,1,4\n" "from,to,rate\n0,1,50\n1,0,100\n1,1,4\n"
  pub copy_without_moves : Copies "from,to,rate\n" "from,to,rate\n"
  -- "It answers with the copy's length; bytes beyond are unchanged"; "17 when the buffer for the copy is too short, tested last"
  pub copied_beyond : Copied (bytes "from,to,rate\n") (bytes "state\n0\n") (replicate 15 7) (copied 13) (bytes "from,to,rate\n" ++ (7 ∷ 7 ∷ []))
  pub copy_fits : copy_refusal (bytes "from,to,rate\n0,0,5\n0,0,5\n") (bytes "state\n0\n") 20 ≡ None
  pub copy_short : copy_refusal (bytes "from,to,rate\n0,0,5\n0,0,5\n") (bytes "state\n0\n") 19 ≡ Some 17
  pub tested_last : copy_refusal (bytes "from,to,rate\n0,0,0\n") (bytes "state\n0\n") 0 ≡ Some 9
  -- "tests 1 to 9", of these two texts
  pub empty_moves : copy_refusal [] (bytes "state\n0\n") 0 ≡ Some 1
  pub strange_copy : copy_refusal (bytes "from,to,rate\n0,1,5\n") (bytes "state\n0\n") 0 ≡ Some 6

-- The mark bytes of the small sheet, which has two states, with a formula of 3 nodes, of 17 and of 19.
pub record SmallerMarkBuffer : Type 0 where
  -- "nodes × n where that is less"
  pub three_short : refusal (small "& up dead\n") (lengths (lent_marks 5)) ≡ Some 15
  pub three_long : refusal (small "& up dead\n") (lengths (lent_marks 6)) ≡ None
  -- "mark bytes of 17 × n .. shall be enough"
  pub seventeen_short : refusal (small "& up & up & up & up & up & up & up & up dead\n") (lengths (lent_marks 33)) ≡ Some 15
  pub seventeen_long : refusal (small "& up & up & up & up & up & up & up & up dead\n") (lengths (lent_marks 34)) ≡ None
  pub nineteen_short : refusal (small "& up & up & up & up & up & up & up & up & up dead\n") (lengths (lent_marks 33)) ≡ Some 15
  pub nineteen_long : refusal (small "& up & up & up & up & up & up & up & up & up dead\n") (lengths (lent_marks 34)) ≡ None
  -- "the zeros after acceptance use the new length"
  pub three_zero : (filled 2 1 3 (λ s. s) (λ s. s) (λ s. Yes) (lent_marks 8)).marks ≡ replicate 6 0 ++ replicate 2 7
  pub nineteen_zero : (filled 2 1 19 (λ s. s) (λ s. s) (λ s. Yes) (lent_marks 38)).marks ≡ replicate 34 0 ++ replicate 4 7

-- Import of PRISM's files.
pub record PrismFiles : Type 0 where
  -- "moves line for line in the file's order, labels in the order of their numbers"; "states without labels left out" in the file have a line in the text
  pub in_the_file's_order : Imports (files_of "3 3\n2 0 5\n0 1 7\n0 1 9\n" "0=\"up\" 1=\"dead\" 2=\"hot\"\n0: 0 2\n2: 1\n")
      "from,to,rate\n2,0,5\n0,1,7\n0,1,9\n" "state,up,dead,hot\n0,1,0,1\n1,0,0,0\n2,0,1,0\n"
  pub nothing_holds : Imports (files_of "1 0\n" "0=\"init\"\n") "from,to,rate\n" "state,init\n0,0\n"
  -- "An empty file .. is 1", before 2
  pub empty_file : Declines (moving "") 1
  pub other_file_broken : Declines (files_of "" "0=\"up\"\n0:\n") 1
  -- "a broken line, a rate with a point" are 2, and so is what breaks 01's rule of numbers
  pub no_rate : Declines (named "2 1\n0 1\n") 2
  pub rate_with_a_point : Declines (named "2 1\n0 1 2.5\n") 2
  pub ten_digits : Declines (named "2 1\n0 1 1000000000\n") 2
  pub two_spaces : Declines (named "2 1\n0  1 5\n") 2
  pub one_count : Declines (named "2\n0 1 5\n") 2
  pub no_last_line_feed : Declines (named "2 1\n0 1 5") 2
  -- "names not numbered up from 0"; "set apart by one space"; "one or more"
  pub from_1 : Declines (moving "1=\"up\"\n") 2
  pub one_left_out : Declines (moving "0=\"up\" 2=\"dead\"\n") 2
  pub names_not_apart : Declines (moving "0=\"up\"1=\"dead\"\n") 2
  pub no_name : Declines (moving "\n") 2
  pub quote_missing : Declines (moving "0=\"up\n") 2
  -- "later label lines or the labels in one not rising, or a label unnamed"
  pub lines_fall : Declines (moving "0=\"up\"\n1: 0\n0: 0\n") 2
  pub state_twice : Declines (moving "0=\"up\"\n1: 0\n1: 0\n") 2
  pub labels_fall : Declines (moving "0=\"up\" 1=\"dead\"\n0: 1 0\n") 2
  pub label_twice : Declines (moving "0=\"up\"\n0: 0 0\n") 2
  pub label_unnamed : Declines (moving "0=\"up\"\n0: 1\n") 2
  pub no_label : Declines (moving "0=\"up\"\n0:\n") 2
  pub no_colon : Declines (moving "0=\"up\"\n0 0\n") 2
  -- "18 when the transition file's first line miscounts the transitions, or a line of either file names a state not below its state count, tested after 2"
  pub too_few_counted : Declines (named "2 0\n0 1 5\n") 18
  pub too_many_counted : Declines (named "2 2\n0 1 5\n") 18
  pub strange_from : Declines (named "2 1\n2 1 5\n") 18
  pub strange_to : Declines (named "2 1\n0 2 5\n") 18
  pub strange_label_line : Declines (moving "0=\"up\"\n2: 0\n") 18
  pub two_before_18 : Declines (named "2 0\n0 1 2.5\n") 2
  -- "19 when a quoted name is not 1 to 12 letters a to z, tested after 18": names "of any bytes but quote and line feed" break no line
  pub capital : Declines (moving "0=\"Up\"\n") 19
  pub empty_name : Declines (moving "0=\"\"\n") 19
  pub other_bytes : Declines (moving "0=\"up 1=: ,\" 1=\"dead\"\n") 19
  pub thirteen_letters : Declines (moving "0=\"abcdefghijklm\"\n") 19
  pub eighteen_before_19 : Declines (files_of "2 0\n0 1 5\n" "0=\"Up\"\n") 18
  -- "checked by 3 to 9 like typed ones after 19"
  pub nineteen_before_3 : Declines (moving "0=\"tt\" 1=\"Up\"\n") 19
  pub always_as_name : Declines (moving "0=\"tt\"\n") 3
  pub name_twice : Declines (moving "0=\"up\" 1=\"up\"\n") 3
  pub three_before_4 : Declines (files_of "0 0\n" "0=\"state\"\n") 3
  pub no_state : Declines (files_of "0 0\n" "0=\"up\"\n") 4
  pub no_moves_per_hour : Declines (named "2 1\n0 1 0\n") 9
  pub total_over : Declines (named "2 2\n0 1 64000000\n0 0 1\n") 9
  -- "Last, .. one longer than its lent buffer 15": 19 bytes of moves and 26 of labels
  pub long_enough : import_refusal (named "2 1\n0 1 5\n") 19 26 ≡ None
  pub moves_short : import_refusal (named "2 1\n0 1 5\n") 18 26 ≡ Some 15
  pub labels_short : import_refusal (named "2 1\n0 1 5\n") 19 25 ≡ Some 15
  pub nine_before_15 : import_refusal (named "2 1\n0 1 0\n") 0 0 ≡ Some 9
  -- "the answer is the two lengths, and bytes beyond are unchanged"
  pub beyond : Imported (files_of "1 0\n" "0=\"init\"\n") (record { moves = replicate 15 7; labels = replicate 17 8 }) (imported 13 15)
      (record { moves = bytes "from,to,rate\n" ++ (7 ∷ 7 ∷ []); labels = bytes "state,init\n0,0\n" ++ (8 ∷ 8 ∷ []) })

-- "`P <= 10000000 U 8 up dead`: .. lower ≤ 3,992,010, upper ≥ 3,992,011, width ≤ 168, yes at state 0", of every report
pub record EightHours (lower upper : ℕ → ℕ) (v : ℕ → Verdict) : Type 0 where
  pub low : lower 0 ≤ 3992010
  pub high : 3992011 ≤ upper 0
  pub narrow : upper 0 ≤ lower 0 + 168
  pub verdict : v 0 ≡ Yes

-- Beside the paper's values: a sheet of three states with unequal exit rates, and its quotients for `U 5000 up dead` at depth 9 and for
-- `V 2000 5000 up dead` and `V 2000 5000 tt dead` at the depths 5 and 6, from the second reckoning in big fractions.
abbrev pub trial_chain : Chain
trial_chain =
    chain_of (sheet_of (bytes "from,to,rate\n0,1,300\n0,2,200\n1,0,100\n2,1,50\n") (bytes "state,up,dead\n0,1,0\n1,1,0\n2,0,1\n"))

abbrev pub trial_quotient : ℕ → Fraction
trial_quotient s = until_quotient trial_chain (5000 * hour) (trial_chain.mark (bytes "up")) (trial_chain.mark (bytes "dead")) s 9

abbrev pub trial_pair : (first : ℕ → Bool) → ℕ → Fraction
trial_pair first s = between_quotient trial_chain (2000 * hour) (5000 * hour) first (trial_chain.mark (bytes "dead")) s 5 6

pub record TrialQuotients : Type 0 where
  pub state_0 : Same (trial_quotient 0) (frac 914845826 2262813335)
  pub state_1 : Same (trial_quotient 1) (frac 249172128 2262813335)
  pub state_2 : Same (trial_quotient 2) (frac 1 1)
  pub pair_0 : Same (trial_pair (trial_chain.mark (bytes "up")) 0) (frac 26756233364484 182459716796875)
  pub pair_1 : Same (trial_pair (trial_chain.mark (bytes "up")) 1) (frac 15011854669806 182459716796875)
  pub pair_2 : Same (trial_pair (trial_chain.mark (bytes "up")) 2) (frac 0 1)
  pub pair_tt_0 : Same (trial_pair (λ s. true) 0) (frac 1141034284277029 2919355468750000)
  pub pair_tt_1 : Same (trial_pair (λ s. true) 1) (frac 158947604640701 1459677734375000)
  pub pair_tt_2 : Same (trial_pair (λ s. true) 2) (frac 10658353744515961 11677421875000000)
