-- `write_refusal` meets its contract: each part has room, and stands behind the one before. Assumes nothing.
use borrow.Author.Rules.{rules}
use Rattle.report.proofs.FitsLaw.{refusal_laws}
use Rattle.report.proofs.write_refusal.Goals as goal

pub returns : goal.returns
returns c = search (rules, refusal_laws)
