-- `enter` meets its contract. Assumes nothing.
use Prim.Native.Nat.{◌-◌, ◌<◌}
use native.Mathlib.Omega.{arith}
use native.Mathlib.Nat.{add_assoc}
use Rattle.rate_matrix.specs.Words.{part_at}
use Rattle.reachability.proofs.EnterLaw.{may_take, turn, finish_early}
use Rattle.reachability.proofs.spread.enter.Goals as goal

pub returns-then-tail-most : goal.returns-then-tail-most
returns-then-tail-most c = finish_early c.loop-word.invariant (omega arith) c.if-tail-most.true

pub take-tail-requires : goal.take-tail-requires
take-tail-requires c =
    let h : c.loop-word.word-index < c.args.end - c.args.begin = omega arith in
    let w = part_at c.args.index.now c.args.begin c.args.end c.loop-word.word-index h in
    may_take c.loop-word.invariant (omega arith) c.if-tail-most.false _ (rw w at c.to_of-s.ensures.value)

pub loop-word-preserved : goal.loop-word-preserved
loop-word-preserved c =
    let h : c.loop-word.word-index < c.args.end - c.args.begin = omega arith in
    let w = part_at c.args.index.now c.args.begin c.args.end c.loop-word.word-index h in
    rw (← add_assoc c.args.begin c.loop-word.word-index 1)
    (turn c.loop-word.invariant (omega arith) c.if-tail-most.false _ (rw w at c.to_of-s.ensures.value) c.take-tail.ensures.value c.take-tail.ensures.queue c.take-tail.ensures.bytes)
