-- `test_formula` meets its contract. Assumes nothing.
use mathlib.Core.Path.{sym}
use Rattle.refusals.proofs.FormulaLaw.{unread, judged, passed_laid}
use Rattle.refusals.proofs.formula_tests.test_formula.Goals as goal

pub returns-in_default-clause-tested : goal.returns-in_default-clause-tested
returns-in_default-clause-tested c = unread _ _ _ (sym c.in_default.ensures.value)

pub returns-clause-tested : goal.returns-clause-tested
returns-clause-tested c = judged _ _ _ (sym c.in-Some.ensures.value) c.requires c.judge.ensures

pub returns-clause-passed : goal.returns-clause-passed
returns-clause-passed c = passed_laid _ _ _ (sym c.in-Some.ensures.value) _ (judged _ _ _ (sym c.in-Some.ensures.value) c.requires c.judge.ensures)
