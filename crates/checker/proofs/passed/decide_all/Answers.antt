-- `decide_all` meets its contract. Assumes nothing.
use Rattle.checker.proofs.ReportLaw.{few_states, some_node, decide_asked, all_decided_lem}
use mathlib.Core.Path.{refl}
use Rattle.checker.proofs.passed.decide_all.Goals as goal

pub overflow_sub-root : goal.overflow_sub-root
overflow_sub-root c = some_node c.requires.ready

pub length-bytes-requires : goal.length-bytes-requires
length-bytes-requires c = (few_states _ _ c.requires.ready.passed c.args.sheet.measured, c.requires.ready.few_nodes)

pub decide-requires : goal.decide-requires
decide-requires c = decide_asked _ _ c.requires.ready.passed c.args.sheet.measured c.requires c.no_search-searches.ensures refl c.store.ensures c.length-bytes.ensures c.clear.ensures

pub returns : goal.returns
returns c = all_decided_lem _ _ c.requires.ready.passed c.args.sheet.measured c.requires c.no_search-searches.ensures refl c.store.ensures c.length-bytes.ensures c.clear.ensures c.decide.ensures
