-- `marks` meets its contract. Assumes nothing.
use borrow.Author.Rules.{rules}
use native.Mathlib.Omega.{arith}
use Prim.Native.Nat.{◌+◌, ◌-◌}
use mathlib.Core.Path.{◌≡◌, sym, ◌∙◌}
use Rattle.csl.specs.Line.{comma, line_feed}
use Rattle.texts.specs.Cut.{rest_is}
use Rattle.texts.specs.Marks.{mark_bytes}
use Rattle.texts.proofs.FieldLaw.{marks_no, marks_yes, marks_end}
use Rattle.texts.proofs.fields.marks.Goals as goal

pub returns-then-not-mark-clause-value : goal.returns-then-not-mark-clause-value
returns-then-not-mark-clause-value c = rw (marks_no _ _ _ _ c.loop.invariant.3 (omega arith) (sym c.mark.ensures ∙ c.if-not-mark.true))

pub slice_bounds-t-count : goal.slice_bounds-t-count
slice_bounds-t-count c = mark_bytes comma _ (sym c.mark.ensures ∙ c.if-not-mark.false)

pub slice_bounds-t-start : goal.slice_bounds-t-start
slice_bounds-t-start c = let l = mark_bytes comma _ (sym c.mark.ensures ∙ c.if-not-mark.false) in search rules

pub loop-preserved : goal.loop-preserved
loop-preserved c =
    let e = sym c.mark.ensures ∙ c.if-not-mark.false in
    let n : c.args.count + 1 - (c.loop.counter + 1) ≡ c.args.count + 1 - c.loop.counter - 1 = omega arith in
    (omega arith, omega arith, omega (arith, mark_bytes comma _ e), rw (rest_is, n) (marks_yes _ _ _ _ c.loop.invariant.3 (omega arith) e))

pub returns-then-not-mark-2-clause-value : goal.returns-then-not-mark-2-clause-value
returns-then-not-mark-2-clause-value c =
    rw (marks_end _ _ _ _ c.loop.invariant.3 (omega arith) ∙ sym c.mark-2.ensures ∙ c.if-not-mark-2.true)

pub returns : goal.returns
returns c =
    let e = sym c.mark-2.ensures ∙ c.if-not-mark-2.false in
    record { value = rw (marks_end _ _ _ _ c.loop.invariant.3 (omega arith) ∙ e); within = omega (arith, mark_bytes line_feed _ e) }
