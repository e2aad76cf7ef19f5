-- `check` meets its contract. Assumes nothing.
use mathlib.Core.Path.{refl}
use borrow.Author.Rules.{rules}
use Rattle.std.specs.Prelude.{Err}
use Rattle.verdicts.specs.declared.refusal.Refusal.TheVariants.{OutOfBytes}
use Rattle.checker.proofs.CheckLaw.{too_long, sheet_turned}
use Rattle.checker.proofs.check.Goals as goal

pub returns-then-out_of_bytes : goal.returns-then-out_of_bytes
returns-then-out_of_bytes c =
    let ended = too_long _ c.out_of_bytes.ensures c.if-out_of_bytes.true _ (Err OutOfBytes) refl in
    record { finished = ended.finished; found = ended.found; counted = ended.counted }

pub returns-in_err-has : goal.returns-in_err-has
returns-in_err-has c =
    let ended = sheet_turned _ c.out_of_bytes.ensures c.if-out_of_bytes.false c.in_err-has.ensures.tested _ c.from_residual.result (search rules) in
    record { finished = ended.finished; found = ended.found; counted = ended.counted }
