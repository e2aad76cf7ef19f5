-- `lay` meets its contract. Assumes nothing.
use Rattle.std.proofs.Common.{◌-◌}
use Rattle.csl.specs.Line.{comma, space, parts}
use Rattle.texts.specs.Behind.{parts_behind}
use Rattle.formula.proofs.LayLaw.{Underway}
use Rattle.formula.proofs.lay.lay.Given as goal

abbrev pub invariant-loop : goal.invariant-loop
invariant-loop l = Underway (parts_behind comma l.names) l.count (parts space l.line) l.row l.waiting l.w l.s (l.count - l.counter)
