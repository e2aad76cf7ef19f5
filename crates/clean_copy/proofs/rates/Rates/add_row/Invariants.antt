-- The words of the row so far are added.
use Rattle.std.proofs.Common.{◌+◌}
use Rattle.clean_copy.proofs.RatesLaw.{Adding}
use Rattle.clean_copy.proofs.rates.Rates.add_row.Given as goal

abbrev pub invariant-loop-word : goal.invariant-loop-word
invariant-loop-word l = Adding l.self.rows.now l.self.states l.begin l.totals (l.begin + l.word-index)
