-- What is read of a text: the formula that it spells, if it spells one. Assumes nothing.
use Rattle.std.specs.Prelude.{Bool, cond, ◌&&◌, List, leb, ◌≡◌, ℕ, ◌≤◌, Option, None, Some}
use Rattle.std.proofs.Common.{le-leb}
use Rattle.csl.specs.Text.{Text}
use Rattle.csl.specs.Limits.{most_nodes, most_levels}
use Rattle.csl.specs.Formula.{Formula, nodes, levels}
use Rattle.formula.specs.declared.nodes.Nodes.{Nodes}
use Rattle.formula.specs.declared.reading.Reading.{Reading}
use Rattle.formula.specs.Listed.{empty, stored}

-- "at most 64, nested at most 16 deep"
abbrev pub few : ℕ → ℕ → Bool
few count deep = leb count most_nodes && leb deep most_levels

unfoldable pub reading_of : List Text → Option Formula → Option Reading
reading_of names None = None
reading_of names (Some f) =
    Some (record { count = nodes f; levels = levels f; nodes = cond (few (nodes f) (levels f)) (stored names f) empty })

-- the nodes that were read; none where no formula was
abbrev pub nodes_read : Option Reading → Nodes
nodes_read None = empty
nodes_read (Some r) = r.nodes

-- within the limits
pub reading_few : (names : List Text) (f : Formula) → nodes f ≤ most_nodes → levels f ≤ most_levels
    → reading_of names (Some f) ≡ Some (record { count = nodes f; levels = levels f; nodes = stored names f })
unfolding reading_of
reading_few names f h k = rw (le-leb (nodes f) most_nodes h, le-leb (levels f) most_levels k)
