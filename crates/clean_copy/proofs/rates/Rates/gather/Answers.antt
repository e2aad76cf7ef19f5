-- `gather` meets its contract. Assumes nothing.
use Rattle.std.proofs.Common.{arith}
use Rattle.clean_copy.proofs.RatesLaw.{own_fits, own_added_lem}
use Rattle.clean_copy.proofs.rates.Rates.gather.Goals as goal

pub overflow_add-totals : goal.overflow_add-totals
overflow_add-totals c = own_fits c.args.self.now c.args.s c.requires.here c.add_row.ensures

pub returns : goal.returns
returns c = own_added_lem c.args.self.now c.args.s c.requires.here c.add_row.ensures (omega arith)
