-- In what step values and their sums count. Assumes nothing.
use Rattle.std.specs.Prelude.{ℕ, ◌*◌, ◌/◌, ◌≤◌}
use Rattle.std.proofs.Common.{arith}
use Rattle.std.proofs.Math.Nat.{div-le_of_le-mul}
use Rattle.numbers.specs.Hint.{mul_bound}
use Rattle.csl.specs.Limits.{billion}
use Rattle.bounds.specs.Weight.{peak}

-- how many parts of a billionth a step value counts: the greatest power of two for which q × 1 fits 64 bits while q is at most 64,000,000
abbrev pub unit : ℕ
unit = 256

-- the value 1
abbrev pub one : ℕ
one = unit * billion

-- a sum of weights times values counts so many weights times a billionth as 1, so that it fits 64 bits to depth 1023
abbrev pub scale : ℕ
scale = 65536

abbrev pub grain : ℕ
grain = scale * unit

-- a weight times a value in such a sum, rounded down
abbrev pub part : ℕ → ℕ → ℕ
part w v = w * v / grain

-- whatever the unit, a part is at most this
abbrev pub most_part : ℕ
most_part = 16777216 * billion

pub part_most : (w v : ℕ) → w ≤ peak → v ≤ one → part w v ≤ most_part
part_most w v h k = div-le_of_le-mul grain (omega (arith, mul_bound h k))
