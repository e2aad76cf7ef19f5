-- `marks` meets its contract. Assumes nothing.
use Prim.Native.Nat.{◌+◌, ◌*◌, ◌-◌, ◌≤◌}
use mathlib.Core.Path.{◌≡◌}
use lib.ListN.{length}
use Rattle.texts.specs.Marks.{marks_in}
use Rattle.texts.proofs.fields.marks.Given as goal

-- the marks before `counter` are read
abbrev pub invariant-loop : goal.invariant-loop
invariant-loop l =
    (1 ≤ l.counter)
    × (l.counter ≤ l.count)
    × (2 * l.counter + length l.t ≡ length l.s + 2)
    × (marks_in l.count l.s ≡ marks_in (l.count + 1 - l.counter) l.t)
