-- `write_lines` meets its contract. Assumes nothing.
use Rattle.std.proofs.Common.{arith}
use Rattle.clean_copy.proofs.WholeLaw.{write_none, write_room, write_more}
use Rattle.clean_copy.proofs.rates.Rates.write_lines.Goals as goal

pub loop-s-init : goal.loop-s-init
loop-s-init c = write_none c.args.self.now c.args.at c.args.out.now

pub write_row-next-requires : goal.write_row-next-requires
write_row-next-requires c =
    write_room c.args.self.now c.loop-s.s (omega arith) c.gather.new.totals (omega arith) c.gather.ensures c.requires.room c.loop-s.invariant
    (omega arith)

pub loop-s-preserved : goal.loop-s-preserved
loop-s-preserved c =
    write_more c.args.self.now c.loop-s.s (omega arith) c.gather.new.totals (omega arith) c.gather.ensures c.requires.room c.loop-s.invariant
    c.write_row-next.ensures
