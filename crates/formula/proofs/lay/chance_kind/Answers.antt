-- `chance_kind` meets its contract, by the laws of `KindLaw`. Assumes nothing.
use native.Mathlib.Omega.{arith}
use Rattle.std.proofs.lemmas.Grind.{common_steps}
use Rattle.texts.specs.Behind.{behind_tail}
use Rattle.formula.proofs.KindLaw.{chance_read}
use Rattle.formula.proofs.lay.chance_kind.Goals as goal

pub returns-in_default : goal.returns-in_default
returns-in_default c = grind (arith, common_steps, chance_read c.args.i _ _ c.read_bound.ensures)

pub returns-in_default-read_path : goal.returns-in_default-read_path
returns-in_default-read_path c =
    grind (arith, common_steps, behind_tail, chance_read c.args.i _ _ c.read_bound.ensures, c.read_path.ensures)

pub returns : goal.returns
returns c = grind (arith, common_steps, behind_tail, chance_read c.args.i _ _ c.read_bound.ensures, c.read_path.ensures)
