-- The formula that stands at a place of a row of nodes, and how it follows from its operands'. Assumes nothing.
use Rattle.std.specs.Prelude.{◌≡◌, ℕ, zero, suc, List, [], get_or}
use Rattle.csl.specs.Text.{Text}
use Rattle.csl.specs.Formula as csl
use Rattle.csl.specs.Formula.{Formula, always, label, negated, both, chance, until, next_move, between, PathOf, until_of, next_of, between_of, mapped}
use Rattle.verdicts.specs.Paper.{comparison_of}
use Rattle.formula.specs.Nodes.{kind_at, path_meant}
use Rattle.formula.specs.declared.nodes.Kind.{Kind}
use Rattle.formula.specs.declared.nodes.Kind.TheVariants as kind

-- a path over formulas is a path formula
abbrev pub path_over : PathOf Formula → csl.Path
path_over (until_of t a b) = until t a b
path_over (next_of a) = next_move a
path_over (between_of t u a b) = between t u a b

-- a node's formula, where `look` has its operands': a label by the name at its place
abbrev pub formula_over : List Text → (ℕ → Formula) → Kind → Formula
formula_over names look kind.Always = always
formula_over names look (kind.Label i) = label (get_or names i [])
formula_over names look (kind.Negated a) = negated (look a)
formula_over names look (kind.Both a b) = both (look a) (look b)
formula_over names look (kind.Chance c p o) = chance (comparison_of c) p (path_over (mapped look (path_meant o)))

-- the formula at place i, to a depth
unfoldable pub formula_at : List Text → ℕ → List Kind → ℕ → Formula
formula_at names zero nodes i = always
formula_at names (suc d) nodes i = formula_over names (formula_at names d nodes) (kind_at nodes i)

-- by the kind of the node there
pub at_kind : (names : List Text) (d : ℕ) (nodes : List Kind) (i : ℕ) (k : Kind) → kind_at nodes i ≡ k
    → formula_at names (suc d) nodes i ≡ formula_over names (formula_at names d nodes) k
unfolding formula_at
at_kind names d nodes i k e = rw e
