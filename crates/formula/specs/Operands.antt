-- The operands of a node, by their places in the row. Assumes nothing.
use Rattle.std.specs.Prelude.{ℕ, ◌<◌}
use Rattle.csl.specs.Formula.{PathOf, until_of, next_of, between_of}
use Rattle.formula.specs.Nodes.{path_meant}
use Rattle.formula.specs.declared.nodes.Kind.{Kind}
use Rattle.formula.specs.declared.nodes.Kind.TheVariants as kind
use Rattle.formula.specs.declared.operands.Operands.{Operands}
use Rattle.formula.specs.declared.operands.Operands.TheVariants.{None, One, Two}

abbrev pub operands_in : PathOf ℕ → Operands
operands_in (until_of t a b) = Two a b
operands_in (next_of a) = One a
operands_in (between_of t u a b) = Two a b

abbrev pub operands_of : Kind → Operands
operands_of kind.Always = None
operands_of (kind.Label i) = None
operands_of (kind.Negated a) = One a
operands_of (kind.Both a b) = Two a b
operands_of (kind.Chance c p o) = operands_in (path_meant o)

-- operands come before a place, and so those of a node before it
abbrev pub AllBefore : ℕ → Operands → Type 0
AllBefore k None = Unit {0}
AllBefore k (One a) = a < k
AllBefore k (Two a b) = (a < k) × (b < k)

abbrev pub OperandsBefore : ℕ → Kind → Type 0
OperandsBefore k x = AllBefore k (operands_of x)
