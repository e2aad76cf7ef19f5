-- `decide` meets its contract: the levels fall at each call of itself. Assumes nothing.
use Rattle.std.proofs.Common.{arith}
use Rattle.decide.proofs.OperandsLaw.{none_left, may_one, one_left, may_first, two_rows, may_second, two_left}
use Rattle.decide.proofs.DecideLaw.{level_there, may_operands, may_report, is_decided_lem}
use Rattle.decide.proofs.+decide.Goals.{in-None, in-One, in-Two}
use Rattle.decide.proofs.+decide.Goals as goal

pub overflow_sub-below : goal.overflow_sub-below
overflow_sub-below t c = level_there c.requires

pub decide-requires : goal.decide-requires
decide-requires t c = (omega (arith, level_there c.requires), may_one (may_operands c.requires) _ c.operands.ensures c.in-One.is)

pub decide-requires-in-Two : goal.decide-requires-in-Two
decide-requires-in-Two t c = (omega (arith, level_there c.requires), may_first (may_operands c.requires) _ c.operands.ensures c.in-Two.is)

pub slice_bounds-decide-count : goal.slice_bounds-decide-count
slice_bounds-decide-count t c = omega (arith, two_rows (may_operands c.requires) _ c.operands.ensures c.in-Two.is c.decide-in-Two.ensures)

pub slice_bounds-decide-start : goal.slice_bounds-decide-start
slice_bounds-decide-start t c = omega (arith, two_rows (may_operands c.requires) _ c.operands.ensures c.in-Two.is c.decide-in-Two.ensures)

pub decide-requires-in-Two-2 : goal.decide-requires-in-Two-2
decide-requires-in-Two-2 t c =
    (omega (arith, level_there c.requires), may_second (may_operands c.requires) _ c.operands.ensures c.in-Two.is c.decide-in-Two.ensures)

pub report-requires : goal.report-requires
report-requires t c =
    may_report c.requires
    (elim c.match-operands.branch [
      | in-None w ↦ rw (w.vectors-is, w.marks-is) (none_left (may_operands c.requires) _ c.operands.ensures w.in-None.is)
      | in-One w ↦ rw (w.vectors-is, w.marks-is) (one_left (may_operands c.requires) _ c.operands.ensures w.in-One.is w.decide.ensures)
      | in-Two w ↦ rw (w.vectors-is, w.marks-is) (two_left (may_operands c.requires) _ c.operands.ensures w.in-Two.is w.decide-in-Two.ensures w.decide-in-Two-2.ensures)
    ])

pub returns : goal.returns
returns t c = λ a.
    is_decided_lem a
    (elim c.match-operands.branch [
      | in-None w ↦ rw (w.vectors-is, w.marks-is) (none_left (may_operands a) _ c.operands.ensures w.in-None.is)
      | in-One w ↦ rw (w.vectors-is, w.marks-is) (one_left (may_operands a) _ c.operands.ensures w.in-One.is w.decide.ensures)
      | in-Two w ↦ rw (w.vectors-is, w.marks-is) (two_left (may_operands a) _ c.operands.ensures w.in-Two.is w.decide-in-Two.ensures w.decide-in-Two-2.ensures)
    ])
    c.report.ensures
