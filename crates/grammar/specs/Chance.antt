-- What the code's numbers and bounds stand for, and how csl's reader goes on behind them. Assumes nothing.
use Rattle.std.specs.Prelude.{ℕ, ◌<◌, ◌≡◌, Option, None, Some}
use mathlib.Core.List.{List, tail}
use Rattle.csl.specs.Text.{Text}
use Rattle.csl.specs.Formula as formula
use Rattle.csl.specs.Grammar as grammar
use Rattle.csl.specs.Grammar.{Found, nothing, number_of, on_token}
use Rattle.verdicts.specs.Paper.{comparison_of}
use Rattle.grammar.specs.declared.chance.Bound.{Bound}

-- one of at most 10 digits
abbrev pub AmountFits : Option ℕ → Type 0
AmountFits (Some v) = v < 10000000000
AmountFits None = Unit {0}

-- what comes behind a bound that was read: nothing where there is none
abbrev pub bound_then : Option Bound → (formula.Comparison → ℕ → List Text → Found) → List Text → Found
bound_then (Some b) next ts = next (comparison_of b.comparison) b.threshold ts
bound_then None next ts = nothing

-- what was read of the first two tokens: csl's reader goes on behind a comparison and a threshold, or stops there
abbrev pub BoundRead : List Text → Option Bound → Type 0
BoundRead ts b = (next : formula.Comparison → ℕ → List Text → Found)
    → on_token grammar.comparison_of ts (λ c more. on_token number_of more (next c)) ≡ bound_then b next (tail (tail ts))
