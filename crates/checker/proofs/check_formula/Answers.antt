-- `check_formula` meets its contract. Assumes nothing.
use mathlib.Core.Path.{refl}
use borrow.Author.Rules.{rules}
use Rattle.checker.proofs.CheckLaw.{line_right, names_counted, formula_turned, may_measure, short_turned, report_asked, job_reported}
use Rattle.checker.specs.Job.{job}
use Rattle.checker.proofs.check_formula.Goals as goal

pub names_part-names-requires : goal.names_part-names-requires
names_part-names-requires c = line_right (job _ _ c.args.formula.now) _ c.requires.bytes c.requires.passed c.args.sheet.measured

pub test_formula-tested-requires : goal.test_formula-tested-requires
test_formula-tested-requires c =
    names_counted (job _ _ c.args.formula.now) _ c.requires.bytes c.requires.passed c.args.sheet.measured c.names_part-names.ensures

pub too_short-requires : goal.too_short-requires
too_short-requires c =
    may_measure _ _ c.requires.bytes c.requires.passed c.args.sheet.measured c.names_part-names.ensures
    c.in_ok-tested.was c.test_formula-tested.ensures.tested _ c.test_formula-tested.ensures.passed

pub returns-in_err-tested : goal.returns-in_err-tested
returns-in_err-tested c =
    formula_turned _ _ c.requires.bytes c.requires.passed c.args.sheet.measured c.names_part-names.ensures
    c.in_err-tested.was c.test_formula-tested.ensures.tested _ c.from_residual.result (search rules)

pub returns-then-too_short : goal.returns-then-too_short
returns-then-too_short c =
    short_turned _ _ c.requires.bytes c.requires.passed c.args.sheet.measured c.names_part-names.ensures
    c.in_ok-tested.was c.test_formula-tested.ensures.tested _ c.test_formula-tested.ensures.passed
    _ c.too_short.ensures c.if-too_short.true _ refl

pub report-depth-requires : goal.report-depth-requires
report-depth-requires c =
    report_asked _ _ c.requires.bytes c.requires.passed c.args.sheet.measured c.names_part-names.ensures
    c.in_ok-tested.was c.test_formula-tested.ensures.tested _ c.test_formula-tested.ensures.passed
    _ c.too_short.ensures c.if-too_short.false

pub returns : goal.returns
returns c =
    job_reported _ _ c.requires.bytes c.requires.passed c.args.sheet.measured c.names_part-names.ensures
    c.in_ok-tested.was c.test_formula-tested.ensures.tested _ c.test_formula-tested.ensures.passed
    _ c.too_short.ensures c.if-too_short.false c.report-depth.ensures
