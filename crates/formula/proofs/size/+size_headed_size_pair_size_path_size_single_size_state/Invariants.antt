-- The sizes of state formulas, of one or two of them under a node, and of paths meet their contracts, by the laws of `SizeLaw`.
-- Assumes nothing.
use Prim.Native.Nat.{◌+◌, ◌*◌}
use lib.ListN.{length}
use Rattle.formula.proofs.size.+size_headed_size_pair_size_path_size_single_size_state.Given as goal

abbrev pub decreases-size_headed : goal.decreases-size_headed
decreases-size_headed l = 4 * (length l.w.now + length l.s.now)

abbrev pub decreases-size_pair : goal.decreases-size_pair
decreases-size_pair l = 4 * length l.s.now + 2

abbrev pub decreases-size_path : goal.decreases-size_path
decreases-size_path l = 4 * length l.s.now + 3

abbrev pub decreases-size_single : goal.decreases-size_single
decreases-size_single l = 4 * length l.s.now + 2

abbrev pub decreases-size_state : goal.decreases-size_state
decreases-size_state l = 4 * length l.s.now + 1
