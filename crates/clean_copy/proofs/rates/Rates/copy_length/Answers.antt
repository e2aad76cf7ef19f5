-- `copy_length` meets its contract. Assumes nothing.
use Rattle.std.proofs.Common.{arith}
use Rattle.clean_copy.proofs.WholeLaw.{measure_none, measure_more, measure_all}
use Rattle.clean_copy.proofs.rates.Rates.copy_length.Goals as goal

pub loop-s-init : goal.loop-s-init
loop-s-init c = record { is = measure_none c.args.self.now; most = omega arith }

pub loop-s-preserved : goal.loop-s-preserved
loop-s-preserved c = record {
  is = measure_more c.args.self.now c.loop-s.s (omega arith) c.gather.new.totals (omega arith) c.gather.ensures c.loop-s.invariant.is
      c.row_length-length.ensures.value;
  most = omega (arith, c.args.self.now.laid.lines.states);
}

pub returns : goal.returns
returns c = measure_all c.args.self.now c.loop-s.s c.loop-s.invariant.is (omega arith)
