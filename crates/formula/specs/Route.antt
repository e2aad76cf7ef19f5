-- The path formula of a `P` that was read, and the node that it makes. Assumes nothing.
use Rattle.std.specs.Prelude.{◌≡◌, List, ℕ, Option, None, Some}
use Rattle.csl.specs.Text.{Text}
use Rattle.csl.specs.Grammar.{path}
use Rattle.verdicts.specs.Paper.{comparison_of}
use Rattle.verdicts.specs.declared.comparison.Comparison.{Comparison}
use Rattle.formula.specs.declared.nodes.Kind.{Kind}
use Rattle.formula.specs.declared.nodes.Kind.TheVariants as kind
use Rattle.formula.specs.declared.nodes.Path.{Path}
use Rattle.formula.specs.Laying.{hollow, kind_found}

abbrev pub route_kind : Comparison → ℕ → Option Path → Kind
route_kind c p (Some o) = kind.Chance c p o
route_kind c p None = kind.Always

-- the node i that csl reads of a path formula, whatever the comparison and the threshold before it
abbrev pub RouteRead : ℕ → List Text → Option Path → Type 0
RouteRead i ts r = (c : Comparison) → (p : ℕ) → kind_found i (path hollow (comparison_of c) p ts) ≡ route_kind c p r
