-- A weight times a value is added up in two digits. Assumes nothing.
use mathlib.Core.Path.{◌≡◌}
use Prim.Native.Nat.{ℕ, ◌+◌, ◌*◌, ◌/◌, ◌%◌}
use native.Mathlib.Omega.{arith}
use native.Mathlib.Nat.{div-add-mod'}
use Rattle.numbers.specs.Hint.{eq_times}
use Rattle.bounds.specs.Unit.{grain, part}

pub part_digits : (w v : ℕ) → part w v ≡ w / grain * v + w % grain * v / grain
part_digits w v = omega (arith, eq_times v (div-add-mod' w grain))
