-- `write_copy` meets its contract: what the copier promises, or the text of its refusal. Assumes nothing.
use Rattle.std.proofs.Common.{rules}
use Rattle.sheetcopy.proofs.CopyLaw.{copy_printed, refusal_room, refusal_printed}
use Rattle.sheetcopy.proofs.answer.write_copy.Goals as goal

pub write_refusal-requires : goal.write_refusal-requires
write_refusal-requires c = refusal_room _ _ _ (search rules) c.copy.result _ c.copy.ensures _ c.in-Err.is c.from.ensures

pub returns-in-Ok : goal.returns-in-Ok
returns-in-Ok c =
    let both = copy_printed _ _ _ (search rules) c.copy.result _ c.copy.ensures _ c.in-Ok.is in
    record { prefix_len = both.0; written = both.1 }

pub returns-in-Err : goal.returns-in-Err
returns-in-Err c =
    let both = refusal_printed _ _ _ (search rules) c.copy.result _ c.copy.ensures _ c.in-Err.is c.from.ensures c.write_refusal.ensures in
    record { prefix_len = both.0; written = both.1 }
