-- `measure` meets its contract. Assumes nothing.
use Rattle.std.proofs.Common.{arith, ap, ◌∙◌, length}
use Rattle.report.proofs.LinesLaw.{listing_length, fit_none, fit_more, fit_no, fit_all}
use Rattle.report.proofs.rows.Rows.measure.Goals as goal

pub returns-in_err-left : goal.returns-in_err-left
returns-in_err-left c = rw c.from_residual.ensures (let h = c.in_err-left.ensures in omega (arith, listing_length c.args.which c.args.self.now))

pub loop-place-init : goal.loop-place-init
loop-place-init c = let h = c.in_ok-left.ensures in rw h.1 (fit_none c.args.which c.args.self.now c.args.room h.0)

pub returns-in_err-left-2 : goal.returns-in_err-left-2
returns-in_err-left-2 c =
    rw c.from_residual-in_err-left-2.ensures
    (let h = c.in_err-left-2.ensures in
    fit_no c.args.which c.args.self.now c.loop-place.place c.length.result (omega arith) (c.length.ensures ∙ ap length c.line_at.ensures)
    c.loop-place.invariant (omega arith))

pub loop-place-preserved : goal.loop-place-preserved
loop-place-preserved c =
    let h = c.in_ok-left-2.ensures in
    rw h.1
    (fit_more c.args.which c.args.self.now c.loop-place.place (omega arith) (c.length.ensures ∙ ap length c.line_at.ensures) c.loop-place.invariant h.0)

pub returns : goal.returns
returns c = fit_all c.args.which c.args.self.now c.loop-place.place c.loop-place.left (omega arith) (omega arith) c.loop-place.invariant
