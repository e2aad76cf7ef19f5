-- `write_copy` meets its contract: the lines stand behind the first line. Assumes nothing.
use Rattle.std.proofs.Common.{rules}
use Rattle.clean_copy.proofs.WholeLaw.{copy_laws}
use Rattle.clean_copy.proofs.rates.Rates.write_copy.Goals as goal

pub returns : goal.returns
returns c = search (rules, copy_laws)
