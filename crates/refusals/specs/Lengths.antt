-- The lengths of the lent buffers. Assumes nothing.
use Rattle.std.specs.Prelude.{ℕ}
use Rattle.csl.specs.Lent.{Buffers}
use Rattle.refusals.specs.declared.lengths.Lengths.{Lengths}

abbrev pub lengths_of : Lengths → Buffers ℕ
lengths_of l =
    record {
      lower = l.lower;
      upper = l.upper;
      verdicts = l.verdicts;
      order = l.order;
      moves = l.moves;
      vectors = l.vectors;
      marks = l.marks;
    }
