-- `test_sheet` meets its contract. Assumes nothing.
use mathlib.Core.Path.{◌≡◌, refl, sym}
use borrow.Author.Rules.{rules}
use Rattle.refusals.proofs.SheetLaw.{moves_out, labels_out, labels_broken, moves_broken, judge_told, sheet_told}
use Rattle.csl.specs.Refusal.{sheet_tests, first_of}
use Rattle.verdicts.specs.Refusal.{refusal_in}
use Rattle.refusals.proofs.sheet_tests.test_sheet.Goals as goal
use Rattle.refusals.proofs.sheet_tests.test_sheet.Goals.{then-out_of_bytes-via-then-out_of_bytes, then-out_of_bytes-via-else-out_of_bytes+then-out_of_bytes-2}

pub returns-then-out_of_bytes-clause-tested : goal.returns-then-out_of_bytes-clause-tested
returns-then-out_of_bytes-clause-tested c =
    elim c.then-out_of_bytes.branch [
      | then-out_of_bytes-via-then-out_of_bytes w ↦ moves_out _ _ c.out_of_bytes.ensures w.if-out_of_bytes.true
      | then-out_of_bytes-via-else-out_of_bytes+then-out_of_bytes-2 w ↦
          labels_out _ _ c.out_of_bytes.ensures w.if-out_of_bytes.false w.out_of_bytes-else-out_of_bytes.ensures w.if-out_of_bytes-2.true
    ]

pub returns-in_default-clause-tested : goal.returns-in_default-clause-tested
returns-in_default-clause-tested c = labels_broken _ _ c.out_of_bytes.ensures c.if-out_of_bytes.false c.out_of_bytes-else-out_of_bytes.ensures c.if-out_of_bytes-2.false (sym c.in_default.ensures)

pub returns-in_default-read-clause-tested : goal.returns-in_default-read-clause-tested
returns-in_default-read-clause-tested c = moves_broken _ _ c.out_of_bytes.ensures c.if-out_of_bytes.false c.out_of_bytes-else-out_of_bytes.ensures c.if-out_of_bytes-2.false _ (sym c.in_default-read.ensures)

pub returns-in_err-q-clause-tested : goal.returns-in_err-q-clause-tested
returns-in_err-q-clause-tested c =
    let told : refusal_in c.judge.result ≡ first_of (sheet_tests c.args.moves.now c.args.labels.now)
    = judge_told _ _ c.out_of_bytes.ensures c.if-out_of_bytes.false c.out_of_bytes-else-out_of_bytes.ensures c.if-out_of_bytes-2.false (sym c.in-Some.ensures) (sym c.in-Some-read.ensures) c.judge.ensures.tested in
    search rules

pub returns-clause-tested : goal.returns-clause-tested
returns-clause-tested c = judge_told _ _ c.out_of_bytes.ensures c.if-out_of_bytes.false c.out_of_bytes-else-out_of_bytes.ensures c.if-out_of_bytes-2.false (sym c.in-Some.ensures) (sym c.in-Some-read.ensures) c.in_ok-q.ensures.tested

pub returns-clause-told : goal.returns-clause-told
returns-clause-told c = sheet_told _ _ c.out_of_bytes.ensures c.if-out_of_bytes.false c.out_of_bytes-else-out_of_bytes.ensures c.if-out_of_bytes-2.false (sym c.in-Some.ensures) (sym c.in-Some-read.ensures) c.in_ok-q.ensures.tested refl c.in_ok-q.ensures.told
