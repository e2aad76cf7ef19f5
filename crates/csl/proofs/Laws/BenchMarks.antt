-- The bench values of the smaller mark buffer hold. Assumes nothing.
use Rattle.std.specs.Prelude.{refl}
use Rattle.csl.specs.Bench.{SmallerMarkBuffer}
use Rattle.csl.proofs.Laws.Computing.{computing}

pub smaller_mark_buffer : SmallerMarkBuffer
unfolding computing
smaller_mark_buffer =
    record {
      three_short = refl;
      three_long = refl;
      seventeen_short = refl;
      seventeen_long = refl;
      nineteen_short = refl;
      nineteen_long = refl;
      three_zero = refl;
      nineteen_zero = refl;
    }
