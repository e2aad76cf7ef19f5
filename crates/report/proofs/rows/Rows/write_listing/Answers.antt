-- `write_listing` meets its contract: the lines stand behind the names. Assumes nothing.
use Rattle.std.proofs.Common.{rules}
use Rattle.report.proofs.LinesLaw.{listing_laws}
use Rattle.report.proofs.rows.Rows.write_listing.Goals as goal

pub write_bytes-next-requires : goal.write_bytes-next-requires
write_bytes-next-requires c = search (rules, listing_laws)

pub write_rows-requires : goal.write_rows-requires
write_rows-requires c = search (rules, listing_laws)

pub returns : goal.returns
returns c = search (rules, listing_laws)
