-- What the tests of a sheet's two texts answer. Assumes nothing.
use Rattle.std.specs.Prelude.{◌≡◌, length, Some}
use Rattle.csl.specs.Text.{Text}
use Rattle.csl.specs.Line.{line_feed}
use Rattle.csl.specs.Sheet.{sheet_of}
use Rattle.csl.specs.Chain.{chain_of, top_rate}
use Rattle.texts.specs.Span.{span_of}
use Rattle.moves.specs.Facts as m
use Rattle.moves.specs.declared.facts.MovesFacts.{MovesFacts}
use Rattle.labels.specs.Facts as l
use Rattle.labels.specs.declared.facts.LabelsFacts.{LabelsFacts}
use Rattle.refusals.specs.declared.sheet_tests.Dimensions.{Dimensions}

-- facts are those of two texts
pub record Facts (moves labels : Text) (a : MovesFacts) (b : LabelsFacts) : Type 0 where
  pub of_labels : l.labels_facts labels ≡ Some b
  pub of_moves : m.moves_facts b.states moves ≡ Some a

-- what a sheet has; "The uniformisation rate q is the greatest exit rate."
abbrev pub dimensions_of : (moves labels : Text) → Dimensions
dimensions_of moves labels =
    record {
      states = (sheet_of moves labels).states;
      moves = length (sheet_of moves labels).moves;
      names = length (sheet_of moves labels).names;
      first = span_of line_feed labels;
      q = top_rate (chain_of (sheet_of moves labels));
    }
