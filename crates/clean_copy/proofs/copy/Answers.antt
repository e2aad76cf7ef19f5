-- `copy` meets its contract: the tests, the moves laid, and their copy. Assumes nothing.
use Rattle.std.proofs.Common.{rules}
use Rattle.clean_copy.proofs.CopyLaw.{copy_refused_lem, may_lay, copy_made}
use Rattle.clean_copy.proofs.copy.Goals as goal

pub returns-in_err-sheet : goal.returns-in_err-sheet
returns-in_err-sheet c = copy_refused_lem _ _ _ c.from_residual.result c.in_err-sheet.ensures.tested (search rules)

pub lay-requires : goal.lay-requires
lay-requires c = may_lay _ _ c.in_ok-sheet.ensures.tested c.in_ok-sheet.ensures.told _ _ (search rules) (search rules)

pub returns : goal.returns
returns c = copy_made _ _ c.in_ok-sheet.ensures.tested c.in_ok-sheet.ensures.told c.lay.ensures _ c.copy.new.out c.copy.result c.copy.ensures
