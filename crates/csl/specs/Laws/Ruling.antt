-- The verdict of a `P` where the moves decide, and where they do or do not. Assumes nothing.
use Rattle.std.specs.Prelude.{Bool, true, false, cond, ℕ, eqb}
use Rattle.csl.specs.Limits.{billion}
use Rattle.csl.specs.Formula.{Comparison, Less, AtMost, AtLeast, More}
use Rattle.csl.specs.Verdicts.{Verdict, No, Yes, marked, negation}

-- where b says whether it is possible, the verdict with the threshold 0; where it says whether it is certain, with 1,000,000,000
abbrev pub possible_verdict : Comparison → Bool → Verdict
possible_verdict More b = marked b
possible_verdict AtMost b = negation (marked b)
possible_verdict AtLeast b = Yes
possible_verdict Less b = No

abbrev pub certain_verdict : Comparison → Bool → Verdict
certain_verdict AtLeast b = marked b
certain_verdict Less b = negation (marked b)
certain_verdict AtMost b = Yes
certain_verdict More b = No

-- the threshold is 0 or 1,000,000,000
abbrev pub is_zero_or_one : ℕ → Bool
is_zero_or_one p = cond (eqb p 0) true (eqb p billion)

-- the verdict by the moves
abbrev pub moves_verdict : Comparison → ℕ → (possible certain : Bool) → Verdict
moves_verdict r p possible certain = cond (eqb p 0) (possible_verdict r possible) (certain_verdict r certain)

-- and the one that follows, where `decided` says that no operand state is undecided
abbrev pub ruled_verdict : (decided : Bool) → Comparison → ℕ → (possible certain : Bool) → (interval : Verdict) → Verdict
ruled_verdict decided r p possible certain interval = cond (cond decided (is_zero_or_one p) false) (moves_verdict r p possible certain) interval
