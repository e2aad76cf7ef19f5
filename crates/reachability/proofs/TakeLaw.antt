-- A state taken: its first byte is moved onto its second. Assumes nothing.
use mathlib.Core.Path.{◌≡◌, refl}
use mathlib.Core.List.{List}
use Prim.Native.Nat.{ℕ, ◌+◌, ◌<◌}
use native.Mathlib.Omega.{arith}
use lib.ListN.{length, set, length-set}
use Rattle.numbers.specs.Filled.{at}
use Rattle.reachability.specs.Asked.{TakeAsked, rows_taken}

pub in_second : {l rows : List ℕ} {n s tail : ℕ} → TakeAsked l rows n s tail → n + s < length (set rows s 0)
in_second {rows = rows} {s = s} a = rw (length-set rows s 0) (omega (arith, a.here, a.held))

pub rows_are : (rows : List ℕ) (n s : ℕ) → set (set rows s 0) (n + s) (at rows s + at rows (n + s)) ≡ rows_taken rows n s
unfolding rows_taken
rows_are rows n s = refl

pub ruleset take_laws = (in_second, rows_are)
