-- `move_line` meets its contract, by the laws of `LineLaw`. Assumes nothing.
use mathlib.Core.Path.{◌∙◌}
use Rattle.moves.proofs.LineLaw.{third_bad, all_read}
use Rattle.moves.proofs.lines.move_line.Goals as goal

pub returns-in_err-rate-clause-value : goal.returns-in_err-rate-clause-value
returns-in_err-rate-clause-value c =
    c.from_residual-in_err-rate.ensures
    ∙ third_bad _ c.field.ensures.value c.in_ok-from.was c.field-2.ensures.value c.in_ok-to.was c.field-3.ensures.value c.in_err-rate.was

pub returns-clause-value : goal.returns-clause-value
returns-clause-value c = all_read _ c.field.ensures.value c.in_ok-from.was c.field-2.ensures.value c.in_ok-to.was c.field-3.ensures.value c.in_ok-rate.was
