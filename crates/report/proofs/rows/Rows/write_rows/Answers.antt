-- `write_rows` meets its contract. Assumes nothing.
use Rattle.std.proofs.Common.{arith}
use Rattle.report.proofs.LinesLaw.{lines_none, lines_room, lines_more}
use Rattle.report.proofs.rows.Rows.write_rows.Goals as goal

pub loop-place-init : goal.loop-place-init
loop-place-init c = lines_none c.args.which c.args.self.now c.args.at c.args.out.now

pub write-next-requires : goal.write-next-requires
write-next-requires c =
    rw c.line_at.ensures
    (lines_room c.args.which c.args.self.now c.loop-place.place (omega arith) c.requires c.loop-place.invariant (omega arith))

pub loop-place-preserved : goal.loop-place-preserved
loop-place-preserved c =
    lines_more c.args.which c.args.self.now c.loop-place.place (omega arith) c.requires c.loop-place.invariant (rw c.line_at.ensures at c.write-next.ensures)
