-- `add_row` meets its contract. Assumes nothing.
use Rattle.std.proofs.Common.{rules, arith, ◌<◌, ◌+◌, ◌-◌, add_assoc}
use Rattle.numbers.specs.Filled.{at}
use Rattle.rate_matrix.specs.Words.{part_at}
use Rattle.clean_copy.proofs.RatesLaw.{row_within, row_inside, clear_length, add_fits, add_more, add_all}
use Rattle.clean_copy.proofs.rates.Rates.add_row.Goals as goal

pub offset_bounds-self-begin : goal.offset_bounds-self-begin
offset_bounds-self-begin c =
    let w = row_within c.args.self.now c.args.s c.requires.here _ c.row_begin-begin.ensures in
    let i = row_inside c.args.self.now c.args.s c.requires.here _ c.row_begin-begin.ensures in
    omega (arith, c.args.self.now.laid.lines.few)

pub slice_bounds-word-items-count : goal.slice_bounds-word-items-count
slice_bounds-word-items-count c = row_within c.args.self.now c.args.s c.requires.here _ c.row_begin-begin.ensures

pub slice_bounds-word-items-start : goal.slice_bounds-word-items-start
slice_bounds-word-items-start c =
    let w = row_within c.args.self.now c.args.s c.requires.here _ c.row_begin-begin.ensures in
    let i = row_inside c.args.self.now c.args.s c.requires.here _ c.row_begin-begin.ensures in
    search rules

pub slice_bounds-word-items-end : goal.slice_bounds-word-items-end
slice_bounds-word-items-end c =
    let i = row_inside c.args.self.now c.args.s c.requires.here _ c.row_begin-begin.ensures in
    search rules

pub overflow_add-totals : goal.overflow_add-totals
overflow_add-totals c =
    let i = row_inside c.args.self.now c.args.s c.requires.here _ c.row_begin-begin.ensures in
    let k : c.loop-word.word-index < at c.args.self.now.columns.now (c.args.self.now.states + c.args.s) - c.row_begin-begin.result = search rules in
    let w = part_at c.args.self.now.rows.now c.row_begin-begin.result _ c.loop-word.word-index k in
    add_fits c.args.self.now c.args.s c.requires.here _ c.row_begin-begin.ensures c.loop-word.invariant (omega arith) _ (rw w at c.to_of.ensures.value) _
    (rw w at c.rate_of.ensures)

pub loop-word-preserved : goal.loop-word-preserved
loop-word-preserved c =
    let i = row_inside c.args.self.now c.args.s c.requires.here _ c.row_begin-begin.ensures in
    let k : c.loop-word.word-index < at c.args.self.now.columns.now (c.args.self.now.states + c.args.s) - c.row_begin-begin.result = search rules in
    let w = part_at c.args.self.now.rows.now c.row_begin-begin.result _ c.loop-word.word-index k in
    rw (← add_assoc c.row_begin-begin.result c.loop-word.word-index 1)
    (add_more c.args.self.now c.args.s c.requires.here _ c.row_begin-begin.ensures c.loop-word.invariant (omega arith) _ (rw w at c.to_of.ensures.value) _
    (rw w at c.rate_of.ensures) (omega (arith, clear_length _ c.requires.clear)))

pub returns : goal.returns
returns c = add_all c.args.self.now c.args.s c.requires.here _ c.row_begin-begin.ensures c.loop-word.word-index c.loop-word.invariant (omega arith)
