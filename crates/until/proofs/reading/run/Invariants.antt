-- The words stand at the step that is reached. Assumes nothing.
use Rattle.until.specs.Run.{Ran}
use Rattle.until.proofs.reading.run.Given as goal

abbrev pub invariant-loop : goal.invariant-loop
invariant-loop l = Ran l.chain.moves.now l.chain.n l.chain.q l.counter l.fn.words l.words
