-- `length` meets its contract: the parts add up. Assumes nothing.
use Rattle.std.proofs.Common.{arith, ap, length}
use Rattle.verdicts.specs.Paper.{verdict_of}
use Rattle.report.proofs.PartsLaw.{row_length}
use Rattle.report.proofs.row.Row.length.Goals as goal

pub returns : goal.returns
returns c =
    let r = c.args.self in
    omega (arith, row_length r.state r.lower r.upper r.depth (verdict_of r.verdict), ap length c.word.ensures.is)
