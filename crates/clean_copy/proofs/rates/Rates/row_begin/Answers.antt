-- `row_begin` meets its contract. Assumes nothing.
use Rattle.clean_copy.proofs.RatesLaw.{begin_first, begin_next}
use Rattle.clean_copy.proofs.rates.Rates.row_begin.Goals as goal

pub returns-then-s-eq0 : goal.returns-then-s-eq0
returns-then-s-eq0 c = begin_first c.args.self.now _ c.if-s-eq0.true

pub returns : goal.returns
returns c = begin_next c.args.self.now _ c.requires c.if-s-eq0.false
