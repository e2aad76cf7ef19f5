-- `are_states` meets its contract. Assumes nothing.
use Rattle.std.specs.Prelude.{take, ltb}
use Rattle.std.proofs.Common.{rules, tests, sym, ◌∙◌}
use Rattle.std.proofs.lemmas.Iterator.{YieldsList-from_slice}
use Rattle.std.proofs.lemmas.Iterator.Search.{all_from_yields_List}
use Rattle.report.proofs.StatesLaw.{every_is}
use Rattle.report.proofs.order.are_states.Goals as goal

pub returns : goal.returns
returns c =
    let front = take c.args.states c.args.order.now in
    all_from_yields_List (λ s. ltb s c.args.states) _ _ _ c.all.ensures.ran (YieldsList-from_slice front cc) (λ x b q k. search (rules, tests))
    ∙ sym (every_is (λ s. ltb s c.args.states) front)
