-- What the refusals ask of the moves text, in document 01's definitions. Assumes nothing.
use Rattle.std.specs.Prelude.{ℕ, Bool, cond, not, ◌||◌, List, map, length, ltb, Option, Some, None}
use Rattle.csl.specs.Text.{Text}
use Rattle.csl.specs.Limits.{most_states}
use Rattle.csl.specs.Line.{lines_of}
use Rattle.csl.specs.Moves.{Move, move_line, move_of, moves_head, moves_layout, moves_of, rates_out}
use Rattle.csl.specs.Chain.{greatest}
use Rattle.csl.specs.Refusal.{strange_state, wrong_rate}
use Rattle.accepted.specs.Rates.{others}
use Rattle.texts.specs.Lines.{lines_pass}
use Rattle.moves.specs.declared.facts.MovesFacts.{MovesFacts}

-- all states are known and they are not too many, and test 9 does not hold
abbrev pub has_good_rates : ℕ → List Move → Bool
has_good_rates n ms = not (strange_state n ms || ltb most_states n || wrong_rate ms)

-- the greatest total that goes from one state to others, where the rates are good
abbrev pub top_of : ℕ → List Move → Option ℕ
top_of n ms = cond (has_good_rates n ms) (Some (greatest (rates_out (others ms)) n)) None

-- the facts of moves whose layout is right
abbrev pub facts_in : ℕ → Bool → List Move → MovesFacts
facts_in n head ms =
    record { head = head; count = length ms; strange = strange_state n ms; top = top_of n ms }

-- those of the lines behind a first line; none where the layout is broken: nothing else is said
unfoldable pub lines_facts : ℕ → Bool → Text → Option MovesFacts
lines_facts n head t = cond (lines_pass move_line t) (Some (facts_in n head (map move_of (lines_of t)))) None

unfoldable pub moves_facts : ℕ → Text → Option MovesFacts
moves_facts n moves = cond (moves_layout moves) (Some (facts_in n (moves_head moves) (moves_of moves))) None
