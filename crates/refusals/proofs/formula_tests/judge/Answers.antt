-- `judge` meets its contract. Assumes nothing.
use Rattle.refusals.proofs.FormulaLaw.{at_11, at_12, at_13, at_16, at_14, at_end}
use Rattle.refusals.proofs.formula_tests.judge.Goals as goal

pub returns-then-reading : goal.returns-then-reading
returns-then-reading c = search at_11

pub returns-then-not-labels_known : goal.returns-then-not-labels_known
returns-then-not-labels_known c = search at_12

pub returns-then-not-within_limits : goal.returns-then-not-within_limits
returns-then-not-within_limits c = search at_13

pub returns-then-not-in_order : goal.returns-then-not-in_order
returns-then-not-in_order c = search at_16

pub returns-then-not-load_passes : goal.returns-then-not-load_passes
returns-then-not-load_passes c = search at_14

pub returns : goal.returns
returns c = search at_end
