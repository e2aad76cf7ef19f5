-- `top_rate` meets its contract. Assumes nothing.
use mathlib.Core.Path.{◌≡◌}
use Rattle.csl.specs.Chain.{greatest}
use Rattle.moves.proofs.TotalsLaw.{leaving}
use Rattle.moves.proofs.totals.top_rate.Given as goal

abbrev pub invariant-loop-s : goal.invariant-loop-s
invariant-loop-s l = l.top ≡ greatest (leaving l.totals l.owns) l.s
