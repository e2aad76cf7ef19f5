-- `store` meets its contract. Assumes nothing.
use Rattle.sheet_words.proofs.StoreLaw.{moves_room, prepare_asked, may_index_words, marks_asked, stored}
use Rattle.sheet_words.proofs.store.Goals as goal

pub store-requires : goal.store-requires
store-requires c = moves_room c.args.sheet.measured c.requires

pub prepare-requires : goal.prepare-requires
prepare-requires c = prepare_asked c.args.sheet.measured c.requires c.store.ensures

pub store_index-requires : goal.store_index-requires
store_index-requires c = may_index_words c.args.sheet.measured c.requires c.store.ensures c.prepare.ensures

pub store_marks-requires : goal.store_marks-requires
store_marks-requires c =
    marks_asked c.args.sheet.measured c.requires c.store.ensures c.prepare.ensures c.store_index.ensures

pub returns : goal.returns
returns c = stored c.args.sheet.measured c.requires c.store.ensures c.prepare.ensures c.store_index.ensures c.store_marks.ensures
