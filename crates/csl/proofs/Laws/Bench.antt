-- The starred bench values, and those of hours with decimals and of the second listing, hold. Assumes nothing.
use Rattle.std.specs.Prelude.{◌≡◌, refl, Bool, true, false, cond, ℕ, zero, suc, ◌*◌, ◌<◌}
use Rattle.std.proofs.Common.{ap, ◌∙◌, arith}
use Rattle.std.proofs.lemmas.Bool.{false≢true}
use Rattle.csl.specs.Text.{Text, bytes}
use Rattle.csl.specs.Limits.{billion, hour}
use Rattle.csl.specs.Formula.{always, label, negated, both, chance, Path, until, PathOf, until_of, next_of, between_of, Comparison, AtLeast}
use Rattle.csl.specs.Chain.{Chain, top_rate}
use Rattle.csl.specs.Verdicts.{Verdict, No, Yes, marked, negation, conjunction, judged, as_no, as_yes, least, Sides}
use Rattle.csl.specs.Graph.{Tells, AllDecided}
use Rattle.csl.specs.Path.{SidesAt}
use Rattle.csl.specs.Backing.{AtEach, ChanceKeeps, operands_of}
use Rattle.csl.specs.Report.{Reported, lower_of, upper_of, report_text}
use Rattle.csl.specs.Refusal.{job_chain}
use Rattle.csl.specs.Bench.{small, still, negated_times, Prints, BenchValues, DecimalHours, SecondListing}
use Rattle.csl.proofs.Laws.Computing.{computing}
use Rattle.csl.proofs.Laws.Listing.{report_same}
use Rattle.csl.proofs.Laws.PointEnds.{still_lower_lem, still_upper_lem}
use Rattle.csl.proofs.Laws.Enclosure.{ordered_ends}
use Rattle.csl.proofs.Laws.Readings.{marks_decided}
use Rattle.csl.proofs.Laws.Ruled.{between, tells_one}
use Rattle.csl.proofs.Laws.Follows.{sides_one}
use Rattle.csl.proofs.Laws.Backing.{kept_operands}
use Rattle.csl.proofs.Laws.Throughout.{sides}

-- a row of a report
pub record Row (lower upper : ℕ → ℕ) (v : ℕ → Verdict) (s a b : ℕ) (x : Verdict) : Type 0 where
  pub lower_is : lower s ≡ a
  pub upper_is : upper s ≡ b
  pub verdict_is : v s ≡ x

-- the ends where the second operand is marked or not
abbrev end_of : Bool → ℕ
end_of b = billion * cond b 1 0

as_no_end : (b : Bool) → billion * cond (as_no (marked b)) 1 0 ≡ end_of b
as_no_end true = refl
as_no_end false = refl

as_yes_end : (b : Bool) → billion * cond (as_yes (marked b)) 1 0 ≡ end_of b
as_yes_end true = refl
as_yes_end false = refl

-- with load 0 the ends of an until over labels are 0 or 1, as the second is marked
module _ (c : Chain) (r : Comparison) (p t : ℕ) (x y : Text) (lower upper : ℕ → ℕ) (v : ℕ → Verdict) (z : top_rate c * t ≡ 0)
    (k : Reported c (chance r p (until t (label x) (label y))) lower upper v) (s : ℕ) (l : s < c.states) (b : Bool) (e : c.mark y s ≡ b) where
  marked_so : k.second s ≡ marked b
  marked_so = k.second_backed s l ∙ ap marked e

  still_low : lower s ≡ end_of b
  still_low = still_lower_lem c t _ _ s l _ _ z (k.keeps.ends s l) ∙ rw marked_so (as_no_end b)

  still_high : upper s ≡ end_of b
  still_high = still_upper_lem c t _ _ s l _ _ z (k.keeps.ends s l) ∙ rw marked_so (as_yes_end b)

  -- judged by them, with a threshold between 0 and 1,000,000,000
  pub still_row : 0 < p → p < billion → Row lower upper v s (end_of b) (end_of b) (judged r p (end_of b) (end_of b))
  still_row i j =
      record {
        lower_is = still_low;
        upper_is = still_high;
        verdict_is = (k.keeps.verdict s l).elsewhere (λ d. between p i j) ∙ rw (still_low, still_high);
      }

  -- decided by the moves: "at least 1,000,000,000" where it is certain
  certain_row : r ≡ AtLeast → p ≡ billion → Row lower upper v s (end_of b) (end_of b) (marked b)
  certain_row i j =
      let decided : AllDecided c k.first × AllDecided c k.second
      = (marks_decided c _ (c.mark x) k.first_backed, marks_decided c _ (c.mark y) k.second_backed) in
      let told : Tells (v s) (least k.second s ≡ true) = rw i at ((k.keeps.verdict s l).at_1 decided j) in
      record {
        lower_is = still_low;
        upper_is = still_high;
        verdict_is = tells_one (least k.second s ≡ true) (v s) (marked b) told (rw marked_so (tells_mark b));
      }
    where
      tells_mark : (d : Bool) → Tells (marked d) (as_no (marked d) ≡ true)
      tells_mark true = refl
      tells_mark false = false≢true

-- `tt`, and `&` of a label and `!` of another
always_row : (c : Chain) (lower upper : ℕ → ℕ) (v : ℕ → Verdict) → Reported c always lower upper v → (s : ℕ) → s < c.states
    → Row lower upper v s billion billion Yes
always_row c lower upper v k s l =
    let e : v s ≡ Yes = k.backed s l in
    record { lower_is = k.lowers s l ∙ rw e; upper_is = k.uppers s l ∙ rw e; verdict_is = e }

and_not_row : (c : Chain) (x y : Text) (lower upper : ℕ → ℕ) (v : ℕ → Verdict)
    → Reported c (both (label x) (negated (label y))) lower upper v → (s : ℕ) → s < c.states
    → (a b : Bool) → c.mark x s ≡ a → c.mark y s ≡ b → (w : Verdict) → conjunction (marked a) (negation (marked b)) ≡ w
    → Row lower upper v s (lower_of w) (upper_of w) w
and_not_row c x y lower upper v k s l a b h j w i =
    let e : v s ≡ w
    = k.backed.verdict s l
    ∙ rw (k.backed.first_backed s l, k.backed.second_backed.verdict s l, k.backed.second_backed.first_backed s l, h, j) i in
    record { lower_is = k.lowers s l ∙ rw e; upper_is = k.uppers s l ∙ rw e; verdict_is = e }

-- the report of two rows
abbrev pub pick : {A : Type 0} → A → A → ℕ → A
pick a b zero = a
pick a b (suc s) = b

pub two_rows : (lower upper : ℕ → ℕ) (v : ℕ → Verdict) (d a b : ℕ) (x : Verdict) (a' b' : ℕ) (x' : Verdict)
    → Row lower upper v 0 a b x → Row lower upper v 1 a' b' x' → report_text 2 lower upper d v ≡ report_text 2 (pick a a') (pick b b') d (pick x x')
two_rows lower upper v d a b x a' b' x' h k =
    report_same lower upper (pick a a') (pick b b') v (pick x x') 2 (two _ _ h.lower_is k.lower_is) (two _ _ h.upper_is k.upper_is)
    (two _ _ h.verdict_is k.verdict_is) d
  where
    two : {A : Type 0} (f g : ℕ → A) → f 0 ≡ g 0 → f 1 ≡ g 1 → (s : ℕ) → s < 2 → f s ≡ g s
    two f g h k zero l = h
    two f g h k (suc zero) l = k
    two f g h k (suc (suc s)) l = absurd (omega arith)

small_prints : Prints (small "P >= 1000000000 U 0 up dead\n")
    "0,0,0,40,no\n1,1000000000,1000000000,40,yes\n" "1,1000000000,1000000000,40,yes\n0,0,0,40,no\n"
unfolding computing
small_prints lower upper v k =
    let row = certain_row (job_chain (small "P >= 1000000000 U 0 up dead\n")) AtLeast billion 0 (bytes "up") (bytes "dead") lower upper v refl k in
    two_rows lower upper v 40 0 0 No billion billion Yes (row 0 (omega arith) false refl refl refl) (row 1 (omega arith) true refl refl refl)

no_moves_prints : Prints (still "P >= 5 U 8760 up dead\n")
    "0,0,0,40,no\n1,1000000000,1000000000,40,yes\n" "1,1000000000,1000000000,40,yes\n0,0,0,40,no\n"
unfolding computing
no_moves_prints lower upper v k =
    let row = still_row (job_chain (still "P >= 5 U 8760 up dead\n")) AtLeast 5 (8760 * hour) (bytes "up") (bytes "dead") lower upper v refl k in
    two_rows lower upper v 40 0 0 No billion billion Yes (row 0 (omega arith) false refl (omega arith) (omega arith))
    (row 1 (omega arith) true refl (omega arith) (omega arith))

tt_prints : Prints (small "tt\n")
    "0,1000000000,1000000000,0,yes\n1,1000000000,1000000000,0,yes\n" "0,1000000000,1000000000,0,yes\n1,1000000000,1000000000,0,yes\n"
unfolding computing
tt_prints lower upper v k =
    let row = always_row (job_chain (small "tt\n")) lower upper v k in
    two_rows lower upper v 0 billion billion Yes billion billion Yes (row 0 (omega arith)) (row 1 (omega arith))

both_prints : Prints (small "& up ! dead\n")
    "0,1000000000,1000000000,0,yes\n1,0,0,0,no\n" "0,1000000000,1000000000,0,yes\n1,0,0,0,no\n"
unfolding computing
both_prints lower upper v k =
    let row = and_not_row (job_chain (small "& up ! dead\n")) (bytes "up") (bytes "dead") lower upper v k in
    two_rows lower upper v 0 billion billion Yes 0 0 No (row 0 (omega arith) true false refl refl Yes refl)
    (row 1 (omega arith) false true refl refl No refl)

-- "at least 0" is yes by the moves, and every interval lies on its true side
at_least_0_sides : (c : Chain) (o : PathOf (ℕ → Verdict)) (s lower upper : ℕ) → SidesAt c o AtLeast 0 s lower upper Yes
unfolding Sides
at_least_0_sides c (until_of t a b) s lower upper =
    record { at_0 = λ d e. refl; at_1 = λ d e. absurd (omega arith); elsewhere = λ n x a b. omega arith }
at_least_0_sides c (next_of a) s lower upper =
    record { at_0 = λ d e. refl; at_1 = λ d e. absurd (omega arith); elsewhere = λ n x a b. omega arith }
at_least_0_sides c (between_of zero u a b) s lower upper =
    record { at_0 = λ d e. refl; at_1 = λ d e. absurd (omega arith); elsewhere = λ n x a b. omega arith }
at_least_0_sides c (between_of (suc t) u a b) s lower upper = λ x a b. omega arith

at_least_zero : (c : Chain) (w : Path) (lower upper : ℕ → ℕ) (v : ℕ → Verdict) → Reported c (chance AtLeast 0 w) lower upper v
    → AtEach c λ s. v s ≡ Yes
at_least_zero c w lower upper v k s l =
    let o : PathOf (ℕ → Verdict) = operands_of c w (ChanceKeeps c AtLeast 0 lower upper v) k in
    let h : ChanceKeeps c AtLeast 0 lower upper v o = kept_operands c w (ChanceKeeps c AtLeast 0 lower upper v) k in
    sides_one c AtLeast 0 s (lower s) (upper s) (v s) o Yes (ordered_ends c o s (lower s) (upper s) l (h.ends s l))
    (sides c AtLeast 0 lower upper v o h s l) (at_least_0_sides c o s (lower s) (upper s))

pub bench_values : BenchValues
unfolding computing negated_times
bench_values =
    record {
      small_accepted = refl;
      small_printed = small_prints;
      tt_accepted = refl;
      tt_printed = tt_prints;
      both_accepted = refl;
      both_printed = both_prints;
      eight_hours = refl;
      full_load = refl;
      over_load = refl;
      no_moves = refl;
      no_moves_printed = no_moves_prints;
      fifteen = refl;
      sixteen = refl;
      at_least_0_accepted = refl;
      at_least_0 = at_least_zero;
    }

pub decimal_hours : DecimalHours
unfolding computing
decimal_hours =
    record {
      quarter = refl;
      half = refl;
      zero_inside = refl;
      minutes = refl;
      trailing_zero = refl;
      only_zero = refl;
      no_decimal = refl;
      no_number = refl;
      leading_zero = refl;
      three_decimals = refl;
      two_points = refl;
      threshold = refl;
      eleven_digits = refl;
      ten_digits = refl;
      over_the_top = refl;
      most_hundredths_is = refl;
      over_load = refl;
      most_rate_hundredths_is = refl;
      half_load = refl;
      load_rounded_up = refl;
      rate_hundredths_is = refl;
    }

pub second_listing : SecondListing
unfolding computing
second_listing = record { falling = refl; equal_ones = refl; both = refl; order_holds = refl; order_short = refl; order_long = refl }
