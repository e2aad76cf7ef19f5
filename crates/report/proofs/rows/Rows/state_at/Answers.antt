-- `state_at` meets its contract: each number of the order is that of a state. Assumes nothing.
use Rattle.report.proofs.StatesLaw.{state_within}
use Rattle.report.proofs.rows.Rows.state_at.Goals as goal

pub returns-in-WorstFirst-clause-within : goal.returns-in-WorstFirst-clause-within
returns-in-WorstFirst-clause-within c = rw c.from.ensures (state_within c.args.place c.args.self.now.complete c.requires)
