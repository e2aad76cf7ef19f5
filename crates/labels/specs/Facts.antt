-- What the refusals ask of the labels text, in document 01's definitions. Assumes nothing.
use Rattle.std.specs.Prelude.{ℕ, Bool, true, false, cond, length, Option, Some, None}
use Rattle.csl.specs.Text.{Text}
use Rattle.csl.specs.Line.{line_feed, later_lines}
use Rattle.csl.specs.Labels.{in_turn, names_of, labels_head, labels_layout, states_of}
use Rattle.texts.specs.Span.{span_of}
use Rattle.labels.specs.declared.facts.LabelsFacts.{LabelsFacts}
use Rattle.labels.specs.declared.lines.StateLines.{StateLines}

-- the empty text
abbrev pub bare : LabelsFacts
bare = record { head = false; states = 0; turn = true; names = 0; first = 0 }

-- a text whose layout is right
abbrev pub facts_in : Text → LabelsFacts
facts_in labels =
    record {
      head = labels_head labels;
      states = states_of labels;
      turn = in_turn 0 (later_lines labels);
      names = length (names_of labels);
      first = span_of line_feed labels;
    }

-- none where the layout is broken: nothing else is said
unfoldable pub labels_facts : Text → Option LabelsFacts
labels_facts labels = cond (labels_layout labels) (Some (facts_in labels)) None

-- the facts that the state lines give
abbrev pub facts_from : Bool → ℕ → ℕ → Option StateLines → Option LabelsFacts
facts_from head names first None = None
facts_from head names first (Some lines) = Some (record { head = head; states = lines.count; turn = lines.turn; names = names; first = first })
