-- `mark` meets its contract. Assumes nothing.
use mathlib.Core.Path.{sym}
use borrow.Author.Tests.{eq-eqb, ne_eqb}
use Rattle.texts.proofs.FieldLaw.{mark_short, mark_two}
use Rattle.texts.proofs.fields.mark.Goals as goal

pub returns-in_default : goal.returns-in_default
returns-in_default c = sym (mark_short _ _ c.in_default.len_below)

pub returns-then-digit-eq48 : goal.returns-then-digit-eq48
returns-then-digit-eq48 c = rw (mark_two _ _ c.in-len2-up.len_at_least, eq-eqb _ _ c.if-stop-end.true, eq-eqb _ _ c.if-digit-eq48.true)

pub returns-else-digit-eq48 : goal.returns-else-digit-eq48
returns-else-digit-eq48 c = rw (mark_two _ _ c.in-len2-up.len_at_least, eq-eqb _ _ c.if-stop-end.true, ne_eqb _ _ c.if-digit-eq48.false)

pub returns-else-stop-end : goal.returns-else-stop-end
returns-else-stop-end c = rw (mark_two _ _ c.in-len2-up.len_at_least, ne_eqb _ _ c.if-stop-end.false)
