-- The bench values of moves in any order, and of copies, hold. Assumes nothing.
use Rattle.std.specs.Prelude.{refl}
use Rattle.csl.specs.Copy.{CopiedBy, Copied}
use Rattle.csl.specs.Bench.{AnyOrder}
use Rattle.csl.proofs.Laws.Computing.{computing}

pub any_order : AnyOrder
unfolding computing CopiedBy Copied
any_order =
    record {
      added_together = refl;
      falling = refl;
      no_rate = refl;
      one_line_over = refl;
      two_lines_over = refl;
      two_lines_full = refl;
      lines_counted = refl;
      copy = refl;
      copy_of_a_copy = refl;
      copy_without_moves = refl;
      copied_beyond = (refl, refl);
      copy_fits = refl;
      copy_short = refl;
      tested_last = refl;
      empty_moves = refl;
      strange_copy = refl;
    }
