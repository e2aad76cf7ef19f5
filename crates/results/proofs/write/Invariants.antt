-- `write` meets its contract. Assumes nothing.
use Rattle.std.proofs.Common.{◌+◌, get_or}
use Rattle.numbers.specs.Filled.{Table}
use Rattle.results.proofs.write.Given as goal

-- the ends and the verdict bytes of the first s states are written
abbrev pub invariant-loop-s : goal.invariant-loop-s
invariant-loop-s l =
    record {
      lowers : Table (λ k. get_or l.words k 0) l.initial.lower l.lower l.s;
      uppers : Table (λ k. get_or l.words (l.n + k) 0) l.initial.upper l.upper l.s;
      bytes : Table (λ k. get_or l.row k 0) l.initial.verdicts l.verdicts l.s;
    }
