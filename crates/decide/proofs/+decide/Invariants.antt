-- `decide` meets its contract: the levels fall at each call of itself. Assumes nothing.
use Rattle.decide.proofs.+decide.Given as goal

abbrev pub decreases-decide : goal.decreases-decide
decreases-decide l = l.levels
