-- `row` meets its contract. Assumes nothing.
use mathlib.Core.Path.{refl}
use Prim.Native.Nat.{◌-◌, ◌<◌}
use native.Mathlib.Omega.{arith}
use native.Mathlib.Nat.{add_assoc}
use Rattle.rate_matrix.specs.Words.{part_at}
use Rattle.next_move.proofs.RowLaw.{low_fits, high_fits, turn}
use Rattle.next_move.proofs.entering.row.Goals as goal

pub overflow_add-low : goal.overflow_add-low
overflow_add-low c =
    let h : c.loop-word.word-index < c.args.end - c.args.begin = omega arith in
    let w = part_at c.args.moves.now c.args.begin c.args.end c.loop-word.word-index h in
    low_fits c.loop-word.invariant (omega arith) _ _ _ (rw w at c.rate_of-rate.ensures) (rw w at c.to_of.ensures.value) refl _ c.share-low.ensures

pub overflow_add-high : goal.overflow_add-high
overflow_add-high c =
    let h : c.loop-word.word-index < c.args.end - c.args.begin = omega arith in
    let w = part_at c.args.moves.now c.args.begin c.args.end c.loop-word.word-index h in
    high_fits c.loop-word.invariant (omega arith) _ _ _ (rw w at c.rate_of-rate.ensures) (rw w at c.to_of.ensures.value) refl _ c.share-high.ensures

pub loop-word-preserved : goal.loop-word-preserved
loop-word-preserved c =
    let h : c.loop-word.word-index < c.args.end - c.args.begin = omega arith in
    let w = part_at c.args.moves.now c.args.begin c.args.end c.loop-word.word-index h in
    rw (← add_assoc c.args.begin c.loop-word.word-index 1)
    (turn c.loop-word.invariant (omega arith) _ _ _ (rw w at c.rate_of-rate.ensures) (rw w at c.to_of.ensures.value) refl _ _ c.share-low.ensures c.share-high.ensures)
