-- The first line of the labels text. Assumes nothing.
use Rattle.std.specs.Prelude.{ℕ, Bool, ◌&&◌, length, leb, eqb, count_by}
use mathlib.Core.List.{[], head_d, tail}
use Rattle.csl.specs.Text.{Text, bytes, same, every}
use Rattle.csl.specs.Limits.{most_names}
use Rattle.csl.specs.Line.{comma, fields_of}
use Rattle.csl.specs.Labels.{is_name, no_repeat}

-- how many commas stand in a text
abbrev pub commas_in : Text → ℕ
commas_in t = count_by (λ b. eqb b comma) t

-- "First line: `state`, then up to 16 label names, separated by commas." `labels_head` of a text's first line
unfoldable pub is_first_line : Text → Bool
is_first_line line =
    same (head_d (fields_of line) []) (bytes "state") && leb (length (tail (fields_of line))) most_names
    && every is_name (tail (fields_of line)) && no_repeat (tail (fields_of line))
