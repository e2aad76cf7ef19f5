-- The values of the next move, and of moves to the own state, hold. Assumes nothing.
use Rattle.std.specs.Prelude.{◌≡◌, refl, true, false, ℕ, ◌*◌, ◌<◌}
use Rattle.std.proofs.Common.{ap, ◌∙◌, arith}
use Rattle.csl.specs.Text.{Text, bytes}
use Rattle.csl.specs.Limits.{billion, hour}
use Rattle.csl.specs.Formula.{label, chance, next_move, Comparison, Less, AtLeast}
use Rattle.csl.specs.Fraction.{Fraction, in_billionths, round_down, round_up}
use Rattle.csl.specs.Chain.{Chain}
use Rattle.csl.specs.Verdicts.{Verdict, No, Yes, Undecided, judged, as_no, as_yes, least, most}
use Rattle.csl.specs.Next.{next_fraction}
use Rattle.csl.specs.Report.{Reported}
use Rattle.csl.specs.Refusal.{job_chain}
use Rattle.csl.specs.Bench.{small, restarts, only_restarts, Prints, NextMoves}
use Rattle.csl.proofs.Laws.Computing.{computing}
use Rattle.csl.proofs.Laws.Verdicts.{as_no_mark, as_yes_mark}
use Rattle.csl.proofs.Laws.Next.{next_same}
use Rattle.csl.proofs.Laws.Ruled.{between}
use Rattle.csl.proofs.Laws.Bench.{Row, still_row, two_rows}

-- fractions with the same parts are rounded to the same number
same_down : (x y : Fraction) → (x.top ≡ y.top) × (x.bottom ≡ y.bottom) → round_down (in_billionths x) ≡ round_down (in_billionths y)
same_down x y e = rw (e.0, e.1) refl

same_up : (x y : Fraction) → (x.top ≡ y.top) × (x.bottom ≡ y.bottom) → round_up (in_billionths x) ≡ round_up (in_billionths y)
same_up x y e = rw (e.0, e.1) refl

-- the ends of an `X` over a label are its fraction, with the marks for a reading, rounded down and up
next_row : (c : Chain) (r : Comparison) (p : ℕ) (x : Text) (lower upper : ℕ → ℕ) (v : ℕ → Verdict)
    → Reported c (chance r p (next_move (label x))) lower upper v → (s : ℕ) → s < c.states
    → (a b : ℕ) → round_down (in_billionths (next_fraction c (c.mark x) s)) ≡ a → round_up (in_billionths (next_fraction c (c.mark x) s)) ≡ b
    → 0 < p → p < billion → Row lower upper v s a b (judged r p a b)
next_row c r p x lower upper v k s l a b e f i j =
    let low : lower s ≡ a
    = (k.keeps.ends s l).points.lower_is
    ∙ same_down (next_fraction c (least k.first) s) (next_fraction c (c.mark x) s)
    (next_same c (least k.first) (c.mark x) s (λ u m. ap as_no (k.first_backed u m) ∙ as_no_mark (c.mark x u))) ∙ e in
    let high : upper s ≡ b
    = (k.keeps.ends s l).points.upper_is
    ∙ same_up (next_fraction c (most k.first) s) (next_fraction c (c.mark x) s)
    (next_same c (most k.first) (c.mark x) s (λ u m. ap as_yes (k.first_backed u m) ∙ as_yes_mark (c.mark x u))) ∙ f in
    record { lower_is = low; upper_is = high; verdict_is = (k.keeps.verdict s l).elsewhere (λ d. between p i j) ∙ rw (low, high) }

next_prints : Prints (small "P >= 333333334 X dead\n")
    "0,1000000000,1000000000,0,yes\n1,0,0,0,no\n" "0,1000000000,1000000000,0,yes\n1,0,0,0,no\n"
unfolding computing
next_prints lower upper v k =
    let row = next_row (job_chain (small "P >= 333333334 X dead\n")) AtLeast 333333334 (bytes "dead") lower upper v k in
    two_rows lower upper v 0 billion billion Yes 0 0 No (row 0 (omega arith) billion billion refl refl (omega arith) (omega arith))
    (row 1 (omega arith) 0 0 refl refl (omega arith) (omega arith))

restart_prints : Prints (restarts "P >= 333333334 X dead\n")
    "0,333333333,333333334,0,undecided\n1,0,0,0,no\n" "0,333333333,333333334,0,undecided\n1,0,0,0,no\n"
unfolding computing
restart_prints lower upper v k =
    let row = next_row (job_chain (restarts "P >= 333333334 X dead\n")) AtLeast 333333334 (bytes "dead") lower upper v k in
    two_rows lower upper v 0 333333333 333333334 Undecided 0 0 No (row 0 (omega arith) 333333333 333333334 refl refl (omega arith) (omega arith))
    (row 1 (omega arith) 0 0 refl refl (omega arith) (omega arith))

only_restarts_print : Prints (only_restarts "P < 1 U 8760 up dead\n")
    "0,0,0,40,yes\n1,1000000000,1000000000,40,no\n" "1,1000000000,1000000000,40,no\n0,0,0,40,yes\n"
unfolding computing
only_restarts_print lower upper v k =
    let row = still_row (job_chain (only_restarts "P < 1 U 8760 up dead\n")) Less 1 (8760 * hour) (bytes "up") (bytes "dead") lower upper v refl k in
    two_rows lower upper v 40 0 0 Yes billion billion No (row 0 (omega arith) false refl (omega arith) (omega arith)) (row 1 (omega arith) true refl (omega arith) (omega arith))

pub next_moves : NextMoves
unfolding computing
next_moves =
    record {
      next = refl;
      next_printed = next_prints;
      within_until = refl;
      around_until = refl;
      two_operands = refl;
      no_operand = refl;
      hours = refl;
      no_threshold = refl;
      high_threshold = refl;
      fast_sheet = refl;
      restart = refl;
      restart_printed = restart_prints;
      until_restart = refl;
      only_restarts_lem = refl;
      only_restarts_printed = only_restarts_print;
      high_sum = refl;
      strange_restart = refl;
    }
