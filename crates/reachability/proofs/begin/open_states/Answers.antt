-- `open_states` meets its contract. Assumes nothing.
use Rattle.std.specs.Prelude.{◌≡◌, ◌==◌, take, count_by}
use Rattle.std.proofs.Common.{rules, ◌∙◌}
use Rattle.reachability.proofs.CountLaw.{ones_summed}
use Rattle.reachability.proofs.begin.open_states.Goals as goal

pub returns : goal.returns
returns c =
    let h : c.count.result ≡ count_by (λ x. x == 1) (take c.args.n c.args.rows.now) = search rules in
    h ∙ ones_summed c.args.rows.now c.args.n c.requires.held c.requires.bits
