-- `all_decided` meets its contract. Assumes nothing.
use Rattle.std.proofs.Common.{rules, tests, take, ◌∙◌}
use Rattle.std.proofs.lemmas.Iterator.{YieldsList-from_slice}
use Rattle.std.proofs.lemmas.Iterator.Search.{all_from_yields_List}
use Rattle.csl.specs.Laws.Decided.{is_decided}
use Rattle.verdicts.specs.Byte.{verdict_at}
use Rattle.verdict_rows.proofs.RowLaw.{all_told}
use Rattle.verdict_rows.proofs.row.all_decided.Goals as goal

pub returns : goal.returns
returns c =
    let row = c.args.row.now in
    all_from_yields_List (λ b. is_decided (verdict_at b)) _ _ _ c.all.ensures.ran (YieldsList-from_slice (take c.args.n row) cc) (λ x b q k. search (rules, tests))
    ∙ all_told row c.args.n c.requires
