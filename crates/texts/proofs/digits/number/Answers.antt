-- `number` meets its contract. Assumes nothing.
use native.Mathlib.Omega.{arith}
use mathlib.Core.Path.{◌≡◌, sym, ◌∙◌}
use mathlib.Core.Bool.{false}
use lib.ListN.{get_or}
use Rattle.csl.specs.Number.{is_digit}
use Rattle.texts.specs.Counting.{one_more, fits, no_digit}
use Rattle.texts.proofs.NumberLaw.{number_ends, number_long}
use Rattle.texts.proofs.digits.number.Goals.{else-end-s-via-then-end-s+else-is_digit, else-end-s-via-else-end-s}
use Rattle.texts.proofs.digits.number.Goals as goal

pub returns-then-not-is_digit : goal.returns-then-not-is_digit
returns-then-not-is_digit c =
    let e = sym c.is_digit.ensures ∙ c.if-not-is_digit.true in
    let both = number_ends _ c.loop-used.invariant e (omega arith) (omega arith) (omega arith) c.settle.ensures in
    record { value = both.0; within = both.1 }

pub overflow_mul-value : goal.overflow_mul-value
overflow_mul-value c = omega (arith, fits c.loop-used.invariant 10 (omega arith))

pub loop-used-preserved : goal.loop-used-preserved
loop-used-preserved c = one_more c.loop-used.invariant (sym c.is_digit.ensures ∙ c.if-not-is_digit.false)

pub returns-then-is_digit : goal.returns-then-is_digit
returns-then-is_digit c =
    let u : c.loop-used.used ≡ c.min-end.result = omega arith in
    let i = rw u at c.loop-used.invariant in
    record { value = number_long _ i (sym c.is_digit-then-end-s.ensures ∙ c.if-is_digit.true) (omega arith); within = omega arith }

pub returns : goal.returns
returns c =
    let u : c.loop-used.used ≡ c.min-end.result = omega arith in
    let i = rw u at c.loop-used.invariant in
    let e : is_digit (get_or c.args.s.now c.min-end.result 0) ≡ false = elim c.else-end-s.branch [
      | else-end-s-via-then-end-s+else-is_digit w ↦ sym w.is_digit-then-end-s.ensures ∙ w.if-is_digit.false
      | else-end-s-via-else-end-s w ↦ no_digit _ _ w.if-end-s.false
    ] in
    let both = number_ends _ i e (omega arith) (omega arith) (omega arith) c.settle-2.ensures in
    record { value = both.0; within = both.1 }
