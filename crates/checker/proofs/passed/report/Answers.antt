-- `report` meets its contract. Assumes nothing.
use Rattle.checker.proofs.ReportLaw.{write_asked, clear_all_asked, sort_asked, left}
use Rattle.checker.proofs.passed.report.Goals as goal

pub write-requires-clause-ends_in : goal.write-requires-clause-ends_in
write-requires-clause-ends_in c = write_asked _ _ c.requires.ready.passed c.args.sheet.measured c.requires c.decide_all-depth.ensures

pub clear_all-requires : goal.clear_all-requires
clear_all-requires c = clear_all_asked _ _ c.requires.ready.passed c.args.sheet.measured c.requires c.decide_all-depth.ensures

pub sort-requires : goal.sort-requires
sort-requires c = sort_asked _ _ c.requires.ready.passed c.args.sheet.measured c.requires c.decide_all-depth.ensures c.write.ensures.lowers c.write.ensures.uppers c.clear_all.ensures

pub returns : goal.returns
returns c =
    left _ _ c.requires.ready.passed c.args.sheet.measured c.requires c.decide_all-depth.ensures c.write.ensures.lowers c.write.ensures.uppers c.clear_all.ensures c.write.ensures.bytes
    c.sort.ensures.sorted c.sort.ensures.spared
