-- `write` meets its contract: each part has room, and stands behind the one before. Assumes nothing.
use Rattle.std.proofs.Common.{rules}
use Rattle.report.proofs.PartsLaw.{row_laws}
use Rattle.report.proofs.row.Row.write.Goals as goal

pub write_decimal-first-requires : goal.write_decimal-first-requires
write_decimal-first-requires c = search (rules, row_laws)

pub write_bytes-end-requires : goal.write_bytes-end-requires
write_bytes-end-requires c = rw c.word.ensures.is (search (rules, row_laws))

pub write_byte-requires : goal.write_byte-requires
write_byte-requires c =
    let w = rw c.word.ensures.is at c.write_bytes-end.ensures in
    search (rules, row_laws)

pub returns : goal.returns
returns c =
    let w = rw c.word.ensures.is at c.write_bytes-end.ensures in
    search (rules, row_laws)
