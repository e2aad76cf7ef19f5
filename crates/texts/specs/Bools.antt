-- Laws on the order of tests. Assumes nothing.
use Rattle.std.specs.Prelude.{◌≡◌, refl, Bool, true, false, ◌&&◌}
use Rattle.std.proofs.Common.{sym}
use Rattle.std.proofs.Math.Bool.{and-false}

pub and_middle : (x z : Bool) → (x && false && z) ≡ false
and_middle true z = refl
and_middle false z = refl

pub and_swap : (a b c d : Bool) → (a && b && (c && d)) ≡ (c && (a && b && d))
and_swap true true c d = refl
and_swap true false c d = sym (and-false c)
and_swap false b c d = sym (and-false c)
