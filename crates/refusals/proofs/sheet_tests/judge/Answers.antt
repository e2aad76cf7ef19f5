-- `judge` meets its contract. Assumes nothing.
use Rattle.refusals.proofs.JudgeLaw.{at_3, at_4, at_5, at_6, at_top}
use Rattle.refusals.proofs.sheet_tests.judge.Goals as goal

pub returns-then-not-m-l-clause-tested : goal.returns-then-not-m-l-clause-tested
returns-then-not-m-l-clause-tested c = search at_3

pub returns-then-l-clause-tested : goal.returns-then-l-clause-tested
returns-then-l-clause-tested c = search at_4

pub returns-then-m-gt-MOST_MOVES-clause-tested : goal.returns-then-m-gt-MOST_MOVES-clause-tested
returns-then-m-gt-MOST_MOVES-clause-tested c = search at_5

pub returns-then-m-clause-tested : goal.returns-then-m-clause-tested
returns-then-m-clause-tested c = search at_6

pub returns-clause-tested : goal.returns-clause-tested
returns-clause-tested c = search at_top
