-- `both_ends` meets its contract. Assumes nothing.
use Rattle.until.proofs.BothLaw.{may_lower, may_high, may_upper, may_point, is_both}
use Rattle.until.proofs.both_ends.Goals as goal

pub lower_ends-requires : goal.lower_ends-requires
lower_ends-requires c = may_lower c.requires c.read.ensures

pub read_high-requires : goal.read_high-requires
read_high-requires c = may_high c.requires c.read.ensures c.lower_ends.ensures

pub upper_ends-requires : goal.upper_ends-requires
upper_ends-requires c =
    may_upper c.requires c.read.ensures c.lower_ends.ensures c.gap-gap.ensures c.read_high.ensures
    c.error.ensures

pub point-requires : goal.point-requires
point-requires c =
    may_point c.requires c.read.ensures c.lower_ends.ensures c.gap-gap.ensures c.read_high.ensures
    c.error.ensures c.upper_ends.ensures

pub returns : goal.returns
returns c =
    is_both c.requires c.read.ensures c.lower_ends.ensures c.gap-gap.ensures c.read_high.ensures
    c.error.ensures c.upper_ends.ensures c.point.ensures
