-- `seed` meets its contract. Assumes nothing.
use Rattle.reachability.proofs.SeedLaw.{Inv}
use Rattle.reachability.proofs.begin.seed.Given as goal

abbrev pub invariant-loop-s : goal.invariant-loop-s
invariant-loop-s l = Inv l.initial.words l.initial.rows l.words l.rows l.n l.tail l.s
