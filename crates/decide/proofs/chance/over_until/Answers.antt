-- `over_until` meets its contract. Assumes nothing.
use Rattle.decide.proofs.UntilLaw.{may_judge, until_left_in}
use Rattle.decide.proofs.chance.over_until.Goals as goal

pub until-requires : goal.until-requires
until-requires c = may_judge c.requires c.until-depth.ensures

pub returns : goal.returns
returns c = until_left_in c.until-depth.ensures c.until.ensures.judge_leaves c.clear_second.ensures _ c.until.ensures.same
