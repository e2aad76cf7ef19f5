-- `fit` meets its contract: what the first listing leaves decides with the second. Assumes nothing.
use Rattle.std.proofs.Common.{◌∙◌}
use Rattle.report.proofs.FitsLaw.{first_short, second_tells}
use Rattle.report.proofs.rows.Rows.fit.Goals as goal

pub returns-in_default : goal.returns-in_default
returns-in_default c = first_short c.args.self.now c.args.room c.in_default.ensures

pub returns : goal.returns
returns c = c.is_some.ensures ∙ second_tells c.args.self.now c.args.room c.in-Some.left c.measure-2.result c.in-Some.ensures c.measure-2.ensures
