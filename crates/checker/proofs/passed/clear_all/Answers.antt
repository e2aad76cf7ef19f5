-- `clear_all` meets its contract. Assumes nothing.
use Rattle.checker.proofs.ReportLaw.{all_cleared}
use borrow.Author.Rules.{rules}
use Rattle.checker.proofs.passed.clear_all.Goals as goal

pub returns : goal.returns
returns c = search (rules, all_cleared)
