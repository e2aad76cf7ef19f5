-- `summed` meets its contract. Assumes nothing.
use borrow.Author.Rules.{rules}
use Rattle.until.proofs.SummedLaw.{summed_laws}
use Rattle.until.proofs.summed.Goals as goal

pub last_step-last-requires : goal.last_step-last-requires
last_step-last-requires c = search (rules, summed_laws)

pub both_ends-requires : goal.both_ends-requires
both_ends-requires c = search (rules, summed_laws)

pub returns : goal.returns
returns c = search (rules, summed_laws)
