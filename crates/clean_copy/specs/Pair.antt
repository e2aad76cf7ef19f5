-- The line of a pair of the program. Assumes nothing.
use Rattle.csl.specs.Text.{Text}
use Rattle.clean_copy.specs.Row.{pair_text}
use Rattle.clean_copy.specs.declared.pair.Pair.{Pair}

abbrev pub text_of : Pair → Text
text_of p = pair_text p.from p.to p.rate
