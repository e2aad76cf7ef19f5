-- `until` meets its contract. Assumes nothing.
use borrow.Author.Rules.{rules}
use Rattle.until.proofs.UntilLaw.{is_until}
use Rattle.until.proofs.until.Goals as goal

pub returns : goal.returns
returns c = search (rules, is_until)
