-- The rules for the two ends of a `P` at one state, in billionths, for any path. Assumes nothing.
use Rattle.std.specs.Prelude.{ℕ, ◌+◌, ◌≤◌}
use Rattle.csl.specs.Limits.{billion}
use Rattle.csl.specs.Formula.{PathOf}
use Rattle.csl.specs.Fraction.{Below, plus, billionths}
use Rattle.csl.specs.Chain.{Chain}
use Rattle.csl.specs.Limit.{Each}
use Rattle.csl.specs.Verdicts.{Verdict}
use Rattle.csl.specs.Path.{meaning, low_value, high_value, PointsAt, DecidedIn}

-- the ends `lower` and `upper` at state s of a path whose operands have the verdicts in o
pub record EndsAt (c : Chain) (o : PathOf (ℕ → Verdict)) (s lower upper : ℕ) : Type 0 where
  -- "Each end lies on its own side of all quotients from D on for that reading, and at most 4 × D from each of them."
  pub lower_side : Each (λ x. Below (billionths lower) x) (low_value c o s)
  pub lower_near : Each (λ x. Below x (billionths (lower + (meaning c o).slack))) (low_value c o s)
  pub upper_side : Each (λ x. Below x (billionths upper)) (high_value c o s)
  pub upper_near : Each (λ x. Below (billionths upper) (plus x (billionths (meaning c o).slack))) (high_value c o s)
  -- "With no operand state of that `P` undecided, .. the two ends differ by at most 4 × D."
  pub width : DecidedIn c o → upper ≤ lower + (meaning c o).slack
  -- "Ends lie from 0 to 1,000,000,000."
  pub lower_range : lower ≤ billion
  pub upper_range : upper ≤ billion
  -- those that are given without a sum
  pub points : PointsAt c o s lower upper
