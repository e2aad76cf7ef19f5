-- `step` meets its contract. Assumes nothing.
use borrow.Author.Rules.{rules}
use Rattle.phase.proofs.StepsLaw.{may_take}
use Rattle.phase.proofs.steps.step.Goals as goal

pub advance-requires : goal.advance-requires
advance-requires c = search (rules, may_take)
