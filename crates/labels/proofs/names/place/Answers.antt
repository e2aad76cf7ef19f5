-- `place` meets its contract, by the laws of `NamesLaw`. Assumes nothing.
use Rattle.std.proofs.Common.{rules, ◌<◌, ◌≤◌, length}
use Rattle.labels.proofs.NamesLaw.{place_none, place_here, place_on}
use Rattle.labels.proofs.names.place.Goals as goal

pub returns-then-eq : goal.returns-then-eq
returns-then-eq c =
    let l : 0 < length c.loop-w.t.now = search rules in
    place_here _ l _ _ c.part.ensures c.loop-w.invariant c.eq.ensures c.if-eq.true

pub loop-w-preserved : goal.loop-w-preserved
loop-w-preserved c =
    let l : 0 < length c.loop-w.t.now = search rules in
    place_on _ l _ _ c.part.ensures c.loop-w.invariant c.eq.ensures _ c.if-eq.false c.after-t.ensures

pub returns : goal.returns
returns c =
    let l : length c.loop-w.t.now ≤ 0 = search rules in
    place_none _ l c.loop-w.invariant
