-- The paper's value for every case of the code's enums, and an interval by its ends. Assumes nothing.
use Rattle.std.specs.Prelude.{ℕ}
use Rattle.csl.specs.Verdicts as verdicts
use Rattle.csl.specs.Formula as formula
use Rattle.verdicts.specs.declared.verdict.Verdict.{Verdict}
use Rattle.verdicts.specs.declared.verdict.Verdict.TheVariants.{No, Yes, Undecided}
use Rattle.verdicts.specs.declared.comparison.Comparison.{Comparison}
use Rattle.verdicts.specs.declared.comparison.Comparison.TheVariants.{Less, AtMost, AtLeast, More}
use Rattle.verdicts.specs.declared.interval.Interval.{Interval}

-- "yes, no or undecided"
abbrev pub verdict_of : Verdict → verdicts.Verdict
verdict_of No = verdicts.No
verdict_of Yes = verdicts.Yes
verdict_of Undecided = verdicts.Undecided

-- "Comparisons are `<`, `<=`, `>=`, `>`"
abbrev pub comparison_of : Comparison → formula.Comparison
comparison_of Less = formula.Less
comparison_of AtMost = formula.AtMost
comparison_of AtLeast = formula.AtLeast
comparison_of More = formula.More

-- the interval with these two ends
abbrev pub interval : ℕ → ℕ → Interval
interval lower upper = record { lower = lower; upper = upper }
