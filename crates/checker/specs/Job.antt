-- A job by its three texts, the seven lent buffers, and how many states an outcome has. Assumes nothing.
use Rattle.std.specs.Prelude.{ℕ, List}
use Rattle.csl.specs.Text.{Text}
use Rattle.csl.specs.Lent.{Buffers}
use Rattle.csl.specs.Refusal.{Job, Outcome, refused, accepted}

abbrev pub job : (moves labels formula : Text) → Job
job moves labels formula = record { moves = moves; labels = labels; formula = formula }

abbrev pub buffers : (lower upper verdicts order moves vectors marks : List ℕ) → Buffers (List ℕ)
buffers lower upper verdicts order moves vectors marks =
    record { lower = lower; upper = upper; verdicts = verdicts; order = order; moves = moves; vectors = vectors; marks = marks }

-- the states of an accepted job's chain; none of a refused one
abbrev pub states_in : Outcome → ℕ
states_in (refused number) = 0
states_in (accepted c f q d) = c.states
