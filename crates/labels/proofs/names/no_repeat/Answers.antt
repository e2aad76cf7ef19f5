-- `no_repeat` meets its contract, by the laws of `NamesLaw`. Assumes nothing.
use Rattle.std.proofs.Common.{rules, ◌<◌, length}
use Rattle.labels.proofs.NamesLaw.{repeat_here}
use Rattle.labels.proofs.names.no_repeat.Goals as goal

pub returns-then-place-commas : goal.returns-then-place-commas
returns-then-place-commas c =
    let l : 0 < length c.loop-t.t.now = search rules in
    repeat_here _ l _ _ _ _ c.part-w.ensures c.after-t.ensures c.place.ensures c.commas.ensures.value c.loop-t.invariant c.if-place-commas.true
