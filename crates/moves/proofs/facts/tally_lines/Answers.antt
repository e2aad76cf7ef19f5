-- `tally_lines` meets its contract, by the laws of `ReadLaw`. Assumes nothing.
use Rattle.std.proofs.Common.{rules, ◌∙◌, ◌<◌, ◌≤◌, length}
use Rattle.moves.proofs.ReadLaw.{tally_none, tally_broken, tally_on, tally_done}
use Rattle.moves.proofs.facts.tally_lines.Goals as goal

pub loop-t-init : goal.loop-t-init
loop-t-init c = search tally_none

pub returns-in_err-from : goal.returns-in_err-from
returns-in_err-from c =
    let l : 0 < length c.loop-t.t.now = search rules in
    c.from_residual.ensures ∙ tally_broken c.loop-t.invariant c.move_line.ensures.value l c.args.head c.in_err-from.was

pub loop-t-preserved : goal.loop-t-preserved
loop-t-preserved c =
    let l : 0 < length c.loop-t.t.now = search rules in
    tally_on c.loop-t.invariant c.move_line.ensures.value l c.in_ok-from.was c.move_line.ensures.within c.add-lines.ensures
    c.add_line.ensures.totals_after
    c.add_line.ensures.own

pub returns : goal.returns
returns c =
    let l : length c.loop-t.t.now ≤ 0 = search rules in
    tally_done c.loop-t.invariant l c.args.head c.good_top.ensures
