-- The nodes of a formula in a row: the first operand's, then the second's, then its own. So operands come before their node, and the
-- outermost node is the last. Assumes nothing.
use Rattle.std.specs.Prelude.{ℕ, suc, ◌+◌, ◌-◌, List, [], ◌∷◌, ◌++◌, replicate}
use Rattle.csl.specs.Text.{Text}
use Rattle.csl.specs.Limits.{most_nodes}
use Rattle.csl.specs.Labels.{place_of}
use Rattle.csl.specs.Formula as csl
use Rattle.csl.specs.Formula.{Formula, always, label, negated, both, chance, until, next_move, between, nodes, nodes_in}
use Rattle.verdicts.specs.declared.comparison.Comparison.{Comparison}
use Rattle.verdicts.specs.declared.comparison.Comparison.TheVariants.{Less, AtMost, AtLeast, More}
use Rattle.formula.specs.declared.nodes.Path.{Path}
use Rattle.formula.specs.declared.nodes.Path.TheVariants as path
use Rattle.formula.specs.declared.nodes.Kind.{Kind}
use Rattle.formula.specs.declared.nodes.Kind.TheVariants as kind
use Rattle.formula.specs.declared.nodes.Nodes.{Nodes}
use Rattle.formula.specs.Nodes.{blank}

-- the code's value for each of the paper's comparisons
abbrev pub held : csl.Comparison → Comparison
held csl.Less = Less
held csl.AtMost = AtMost
held csl.AtLeast = AtLeast
held csl.More = More

-- The outermost node of a formula, at place i; n are the nodes of its last operand, which stand right before it.
abbrev pub path_held : ℕ → ℕ → csl.Path → Path
path_held i n (until t a b) = path.Until t (i - suc n) (i - 1)
path_held i n (next_move a) = path.Next (i - 1)
path_held i n (between t u a b) = path.Between t u (i - suc n) (i - 1)

abbrev pub kind_held : List Text → ℕ → ℕ → Formula → Kind
kind_held names i n always = kind.Always
kind_held names i n (label w) = kind.Label (place_of names w)
kind_held names i n (negated a) = kind.Negated (i - 1)
kind_held names i n (both a b) = kind.Both (i - suc n) (i - 1)
kind_held names i n (chance r p w) = kind.Chance (held r) p (path_held i n w)

-- how many nodes the last operand of a path formula has
abbrev pub last_nodes : csl.Path → ℕ
last_nodes (until t a b) = nodes b
last_nodes (next_move a) = nodes a
last_nodes (between t u a b) = nodes b

-- its nodes, from place b on, and those of a path formula's operands
unfoldable mutual
  pub listed : List Text → Formula → ℕ → List Kind
  listed names always b = kind.Always ∷ []
  listed names (label w) b = kind.Label (place_of names w) ∷ []
  listed names (negated a) b = listed names a b ++ (kind_held names (b + nodes a) (nodes a) (negated a) ∷ [])
  listed names (both a c) b =
      (listed names a b ++ listed names c (b + nodes a)) ++ (kind_held names (b + (nodes a + nodes c)) (nodes c) (both a c) ∷ [])
  listed names (chance r p w) b = listed_in names w b ++ (kind_held names (b + nodes_in w) (last_nodes w) (chance r p w) ∷ [])

  pub listed_in : List Text → csl.Path → ℕ → List Kind
  listed_in names (until t a c) b = listed names a b ++ listed names c (b + nodes a)
  listed_in names (next_move a) b = listed names a b
  listed_in names (between t u a c) b = listed names a b ++ listed names c (b + nodes a)

-- the row of a formula of at most 64 nodes
unfoldable pub stored : List Text → Formula → Nodes
stored names f = record { nodes = listed names f 0 ++ replicate (most_nodes - nodes f) blank; count = nodes f }

abbrev pub empty : Nodes
empty = record { nodes = replicate most_nodes blank; count = 0 }
