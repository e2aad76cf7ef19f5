-- `write_row` meets its contract. Assumes nothing.
use Rattle.std.proofs.Common.{arith}
use Rattle.clean_copy.proofs.RowLaw.{write_none, write_room, write_more}
use Rattle.clean_copy.proofs.row.write_row.Goals as goal

pub loop-to-init : goal.loop-to-init
loop-to-init c = write_none c.args.rates.now c.args.from c.args.at c.args.out.now

pub write-next-requires : goal.write-next-requires
write-next-requires c =
    write_room c.args.rates.now c.args.from c.loop-to.to (omega arith) c.requires c.loop-to.invariant (omega arith)

pub loop-to-preserved : goal.loop-to-preserved
loop-to-preserved c =
    write_more c.args.rates.now c.args.from c.loop-to.to (omega arith) c.requires c.loop-to.invariant c.write-next.ensures
