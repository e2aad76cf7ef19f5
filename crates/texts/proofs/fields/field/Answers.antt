-- `field` meets its contract. Assumes nothing.
use Rattle.texts.proofs.FieldLaw.{field_open, field_other, field_fits}
use Rattle.texts.proofs.fields.field.Goals.{then-t-used-via-then-t-used, then-t-used-via-else-t-used+then-t-used-2}
use Rattle.texts.proofs.fields.field.Goals as goal

pub returns-then-t-used-clause-value : goal.returns-then-t-used-clause-value
returns-then-t-used-clause-value c = elim c.then-t-used.branch [
  | then-t-used-via-then-t-used w ↦ field_open _ _ c.number.ensures.value c.in_ok-value.was w.if-t-used.true
  | then-t-used-via-else-t-used+then-t-used-2 w ↦ field_other _ _ c.number.ensures.value c.in_ok-value.was w.if-t-used.false w.if-t-used-2.true
]

pub returns-clause-within : goal.returns-clause-within
returns-clause-within c = field_fits _ c.number.ensures.value c.number.ensures.within c.in_ok-value.was c.if-t-used.false
