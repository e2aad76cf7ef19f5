-- What a path formula means: all that ends, backings, truth tables, reports and theorems ask of it, as one record. Each kind of path supplies
-- one, beside its own definitions (`Until`, `Next`, `Between`); `Path` has one line for each kind. Assumes nothing.
use Rattle.std.specs.Prelude.{ℕ, Bool}
use Rattle.csl.specs.Formula.{Comparison}
use Rattle.csl.specs.Limit.{Value}
use Rattle.csl.specs.Verdicts.{Verdict}

-- An A is what stands for an operand: a formula, its verdicts, or where it holds.
pub record Meaning (A : Type 0) : Type 1 where
  -- "the depth D of the outermost until", which is printed; for `X` "depth is 0"
  pub depth : ℕ
  -- the probability at a state, for a reading of the operands: "all quotients from D on for that reading", or an exact fraction
  pub value : (reading : A → ℕ → Bool) → ℕ → Value
  -- "at most 4 × D from each of them": how far an end may lie from those quotients, and, with no operand state undecided, from the other end;
  -- for `X` 1, "which here takes the place of 4 × D"
  pub slack : ℕ
  -- "A state where .. has both ends ..": the ends at a state that are given without a sum
  pub Points : (verdicts : A → ℕ → Verdict) → (s lower upper : ℕ) → Type 0
  -- the rule of the verdict at a state, by comparison and threshold: the moves', or the interval's, which then says `interval` of the verdict
  pub Follows : (verdicts : A → ℕ → Verdict) → Comparison → (p s : ℕ) → Verdict → (interval : Type 0) → Type 0
