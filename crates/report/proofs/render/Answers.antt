-- `render` meets its contract. Assumes nothing.
use Rattle.report.proofs.FitsLaw.{report_lacks, report_shown, refusal_printed}
use Rattle.report.proofs.render.Goals as goal

pub returns-then-has_all : goal.returns-then-has_all
returns-then-has_all c = rw c.in-Ok.is (report_shown _ _ _ _ _ _ _ c.if-has_all.ensures c.render.ensures)

pub returns-else-has_all : goal.returns-else-has_all
returns-else-has_all c = rw c.in-Ok.is (report_lacks _ _ _ _ _ c.args.out.now _ c.if-has_all.ensures)

pub returns-in-Err : goal.returns-in-Err
returns-in-Err c =
    rw c.in-Err.is
    (refusal_printed 0 c.args.lower.now c.args.upper.now c.args.verdicts.now c.args.order.now c.args.out.now _ c.render_refusal.ensures)
