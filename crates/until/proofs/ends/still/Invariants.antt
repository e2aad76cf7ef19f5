-- The ends of the states before s stand. Assumes nothing.
use Rattle.csl.specs.Report.{lower_of, upper_of}
use Rattle.vectors.specs.Storing.{Inv}
use Rattle.until.specs.Reading.{verdicts}
use Rattle.until.proofs.ends.still.Given as goal

abbrev pub invariant-loop-s : goal.invariant-loop-s
invariant-loop-s l = Inv (λ g. lower_of (verdicts l.second g)) (λ g. upper_of (verdicts l.second g)) l.fn.words l.words l.n l.s
