-- `earlier` meets its contract. Assumes nothing.
use borrow.Author.Rules.{rules}
use Rattle.until.proofs.EarlierLaw.{is_earlier}
use Rattle.until.proofs.earlier.Goals as goal

pub returns : goal.returns
returns c = search (rules, is_earlier)
