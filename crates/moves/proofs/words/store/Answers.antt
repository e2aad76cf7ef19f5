-- `store` meets its contract, by the laws of `StoreLaw`. Assumes nothing.
use Rattle.std.proofs.Common.{rules, ◌<◌, length}
use Rattle.moves.proofs.StoreLaw.{turn}
use Rattle.moves.proofs.words.store.Goals as goal

pub loop-j-preserved : goal.loop-j-preserved
loop-j-preserved c =
    let l : 0 < length c.loop-j.t.now = search rules in
    turn c.loop-j.invariant l c.requires.1 c.known_line-word.ensures
