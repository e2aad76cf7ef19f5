-- The size of what csl's reader finds. Assumes nothing.
use Rattle.std.specs.Prelude.{ℕ, ◌+◌, ◌*◌, ◌≤◌, Option, None, Some}
use Rattle.csl.specs.Formula.{Formula, nodes, levels}
use Rattle.csl.specs.Grammar.{Found, nothing, found}
use Rattle.grammar.specs.Tokens.{bytes_of}
use Rattle.formula.specs.declared.size.Size.{Size}

-- the bytes that the tokens left take, and the formula's nodes and levels
abbrev pub size_of : Found → Option Size
size_of nothing = None
size_of (found f rest) = Some (record { left = bytes_of rest; nodes = nodes f; levels = levels f })

-- A formula in so many bytes, each first token with a mark before it: a node takes at least two bytes, and there are no more levels than
-- nodes.
abbrev pub SizeFits : Option Size → ℕ → Type 0
SizeFits None bytes = 0 ≤ bytes
SizeFits (Some z) bytes = (2 * z.nodes + z.left ≤ bytes) × (1 ≤ z.nodes) × (z.levels ≤ z.nodes)

-- what is known of a text: the formula that it spells, if it spells one; nothing is left behind it
abbrev pub extent_of : Option Formula → Option Size
extent_of None = None
extent_of (Some f) = Some (record { left = 0; nodes = nodes f; levels = levels f })
