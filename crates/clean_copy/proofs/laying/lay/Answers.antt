-- `lay` meets its contract. Assumes nothing.
use borrow.Author.Rules.{rules}
use Rattle.clean_copy.proofs.LayLaw.{lay_laws}
use Rattle.clean_copy.proofs.laying.lay.Goals as goal

pub prepare-requires : goal.prepare-requires
prepare-requires c = search (rules, lay_laws)

pub returns : goal.returns
returns c = search (rules, lay_laws)
