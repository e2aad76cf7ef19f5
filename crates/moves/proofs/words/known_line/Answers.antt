-- `known_line` meets its contract. Assumes nothing.
use Rattle.moves.proofs.KnownLaw.{known_word}
use Rattle.moves.proofs.words.known_line.Goals as goal

pub returns : goal.returns
returns c = known_word _ c.requires c.known_field-from.ensures c.known_field-to.ensures c.known_field-rate.ensures c.pack.ensures
