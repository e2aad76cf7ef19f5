-- `read` meets its contract. Assumes nothing.
use borrow.Author.Rules.{rules}
use Rattle.until.proofs.ReadLaw.{read_laws}
use Rattle.until.proofs.reading.read.Goals as goal

pub lay-requires : goal.lay-requires
lay-requires c = search (rules, read_laws)

pub returns : goal.returns
returns c = search (rules, read_laws)
