-- `lay` meets its contract. Assumes nothing.
use mathlib.Core.Path.{refl}
use Rattle.until.proofs.LayLaw.{end_fits, turn}
use Rattle.until.proofs.reading.lay.Goals as goal

pub overflow_mul-words : goal.overflow_mul-words
overflow_mul-words c = end_fits c.args.as_yes c.requires c.loop-s.invariant c.starts-from.ensures c.loop-s-test.true

pub loop-s-preserved : goal.loop-s-preserved
loop-s-preserved c =
    turn c.args.as_yes c.requires c.loop-s.invariant c.starts-from.ensures c.loop-s-test.true _ _ _ _ _ refl c.holds-by_second.ensures c.holds-by_first.ensures
    c.is_held.ensures c.stays.ensures
