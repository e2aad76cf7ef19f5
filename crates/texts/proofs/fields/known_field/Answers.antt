-- `known_field` meets its contract. Assumes nothing.
use native.Mathlib.Omega.{arith}
use mathlib.Core.Path.{sym, ◌∙◌}
use Rattle.texts.specs.Counting.{one_more, counted, fits}
use Rattle.texts.proofs.fields.known_field.Goals as goal

pub overflow_mul-value : goal.overflow_mul-value
overflow_mul-value c = omega (arith, fits c.loop-value.invariant 9 (omega arith))

pub loop-value-preserved : goal.loop-value-preserved
loop-value-preserved c = one_more c.loop-value.invariant (sym c.is_digit.ensures ∙ c.loop-value-test.true)

pub returns : goal.returns
returns c =
    let n = counted c.loop-value.invariant (sym c.is_digit.ensures ∙ c.loop-value-test.false) in
    record {
      value_is = n.value_is;
      used_is = omega (arith, n.length_is);
      within = omega arith;
      small = fits c.loop-value.invariant 9 (omega arith);
    }
