-- `away` meets its contract. Assumes nothing.
use borrow.Author.Rules.{rules}
use Rattle.rate_matrix.proofs.WordLaw.{word_laws}
use Rattle.rate_matrix.proofs.word.away.Goals as goal

pub returns-then-from_of-to_of : goal.returns-then-from_of-to_of
returns-then-from_of-to_of c = search (rules, word_laws)

pub returns : goal.returns
returns c = search (rules, word_laws)
