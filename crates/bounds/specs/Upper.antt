-- The upper end of a phase, from what its lower values gather: they lack at most e at step 0 and a unit more for each step. That what they leave
-- of 1, less that, lies below what the exact ones leave is in proofs/Upper. Assumes nothing.
use Rattle.std.specs.Prelude.{ℕ, suc, ◌+◌, ◌*◌, ◌-◌, ◌/◌}
use Rattle.csl.specs.Limits.{billion}
use Rattle.csl.specs.Chain.{sum_to}
use Rattle.bounds.specs.Weight.{low}
use Rattle.bounds.specs.Unit.{one, scale, part}
use Rattle.bounds.specs.Ends.{total, last_step, gathered}

-- what a value v of step k leaves of 1 at least, where it is at most e + k too low
abbrev pub remaining : ℕ → ℕ → ℕ → ℕ
remaining e k v = one - (v + (e + k))

-- what values of 0 would leave to be gathered through step l, less 1 for each step's rounding: one number for all states
unfoldable pub gatherable : (a b m l e : ℕ) → ℕ
gatherable a b m l e = sum_to (λ k. part (low a b m k) (one - (e + k))) (suc l) - suc l

-- the lower end of what values v leave of 1, in billionths, from what they gather alone
unfoldable pub left_end : (a b m d e : ℕ) → (ℕ → ℕ) → ℕ
left_end a b m d e v = (gatherable a b m (last_step a b m d) e - gathered a b m (last_step a b m d) v) * scale / total a b m d

-- the upper end, in billionths
abbrev pub upper_end : (a b m d e : ℕ) → (ℕ → ℕ) → ℕ
upper_end a b m d e v = billion - left_end a b m d e v
