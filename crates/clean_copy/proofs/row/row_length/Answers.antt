-- `row_length` meets its contract. Assumes nothing.
use Rattle.std.proofs.Common.{arith}
use Rattle.clean_copy.proofs.RowLaw.{measure_none, measure_more}
use Rattle.clean_copy.proofs.row.row_length.Goals as goal

pub loop-to-init : goal.loop-to-init
loop-to-init c = record { is = measure_none c.args.rates.now c.args.from; most = omega arith }

pub loop-to-preserved : goal.loop-to-preserved
loop-to-preserved c = record {
  is = measure_more c.args.rates.now c.args.from c.loop-to.to c.loop-to.invariant.is c.length-length.ensures.value;
  most = omega arith;
}
