-- `rising` meets its contract. Assumes nothing.
use borrow.Author.Rules.{rules}
use Rattle.weights.proofs.RisingLaw.{rising_laws}
use Rattle.weights.proofs.rising.Goals as goal

pub loop-k-init : goal.loop-k-init
loop-k-init c = search (rules, rising_laws)

pub after-requires : goal.after-requires
after-requires c = search (rules, rising_laws)

pub loop-k-preserved : goal.loop-k-preserved
loop-k-preserved c = search (rules, rising_laws)

pub returns : goal.returns
returns c = search (rules, rising_laws)
