-- The sizes of state formulas, of one or two of them under a node, and of paths meet their contracts, by the laws of `SizeLaw`: behind `P`,
-- csl's reader goes on where a comparison and a threshold were read. Assumes nothing.
use native.Mathlib.Omega.{arith}
use Rattle.std.proofs.lemmas.Grind.{common_steps}
use Rattle.texts.specs.Behind.{behind_tail}
use Rattle.formula.proofs.SizeLaw.{chance_sized}
use Rattle.formula.proofs.size.+size_headed_size_pair_size_path_size_single_size_state.Goals as goal

pub size_headed-returns-in_err-read_bound-in-Chance-clause-value : goal.size_headed-returns-in_err-read_bound-in-Chance-clause-value
size_headed-returns-in_err-read_bound-in-Chance-clause-value t c =
    grind (arith, common_steps, chance_sized c.args.w.now _ _ c.read_bound.ensures)

pub size_headed-returns-in_ok-read_bound-in-Chance-clause-value : goal.size_headed-returns-in_ok-read_bound-in-Chance-clause-value
size_headed-returns-in_ok-read_bound-in-Chance-clause-value t c =
    grind (arith, common_steps, behind_tail, chance_sized c.args.w.now _ _ c.read_bound.ensures)
