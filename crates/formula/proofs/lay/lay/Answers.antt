-- `lay` meets its contract, by the laws of `LayLaw`. Assumes nothing.
use native.Mathlib.Omega.{arith}
use Rattle.formula.proofs.LayLaw.{lay_start, lay_on}
use Rattle.formula.proofs.lay.lay.Goals as goal

pub loop-init : goal.loop-init
loop-init c =
    lay_start _ _ _ _ _ _ _ _ (omega arith) c.requires c.saturating_sub.ensures c.push.ensures c.first_part-w.ensures c.behind_first-s.ensures

pub loop-preserved : goal.loop-preserved
loop-preserved c =
    lay_on _ _ _ _ _ _ _ _ c.loop.invariant _ _ _ _ _ _ _ _ (omega arith) c.pop-i.ensures.next c.pop-i.ensures.others c.top_kind-kind.ensures
    c.push_operands.ensures c.behind_own-rest.ensures c.part-w.ensures c.after-s.ensures
