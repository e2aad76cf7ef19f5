-- `gap` meets its contract. Assumes nothing.
use borrow.Author.Rules.{rules}
use native.Mathlib.Omega.{arith}
use Rattle.until.proofs.GapLaw.{gap_laws, max_is, turn, first_open, second_open}
use Rattle.until.proofs.reading.gap.Goals as goal
use Rattle.until.proofs.reading.gap.Goals.{then-operands-s-gt1-via-then-operands-s-gt1, then-operands-s-gt1-via-else-operands-s-gt1+then-operands-s-gt1-2}

pub loop-s-init : goal.loop-s-init
loop-s-init c = search (rules, gap_laws)

pub returns-then-operands-s-gt1 : goal.returns-then-operands-s-gt1
returns-then-operands-s-gt1 c =
    elim c.then-operands-s-gt1.branch [
      | then-operands-s-gt1-via-then-operands-s-gt1 w ↦
          first_open c.args.words.now _ c.args.operands.second.now c.loop-s-test.true w.if-operands-s-gt1.true
      | then-operands-s-gt1-via-else-operands-s-gt1+then-operands-s-gt1-2 w ↦
          second_open c.args.words.now c.args.operands.first.now _ c.loop-s-test.true w.if-operands-s-gt1-2.true
    ]

pub loop-s-preserved : goal.loop-s-preserved
loop-s-preserved c =
    turn c.loop-s.invariant _ c.if-operands-s-gt1.false c.if-operands-s-gt1-2.false
    (omega (arith, max_is c.loop-s.gap c.saturating_sub.result))

pub returns : goal.returns
returns c = search (rules, gap_laws)
