-- `over_two_phases` meets its contract. Assumes nothing.
use Rattle.decide.proofs.TwoPhasesLaw.{may_earlier, may_judge_pair, two_phases_left}
use Rattle.decide.proofs.chance.over_two_phases.Goals as goal

pub earlier-earlier-requires : goal.earlier-earlier-requires
earlier-earlier-requires c = may_earlier c.requires c.until-later.ensures c.clear_second.ensures

pub judge-requires-clause-ends_in : goal.judge-requires-clause-ends_in
judge-requires-clause-ends_in c = may_judge_pair c.requires c.until-later.ensures c.clear_second.ensures c.earlier-earlier.ensures

pub returns : goal.returns
returns c = two_phases_left c.until-later.ensures c.clear_second.ensures c.earlier-earlier.ensures c.judge.ensures
