-- A reading of two rows of verdict bytes, undecided read as yes or as no: the until that it makes, and its step values, from a start that
-- until has or from ends that stand in a list. Assumes nothing.
use Rattle.std.specs.Prelude.{refl, Bool, true, false, List, ℕ, ◌+◌, ◌*◌, length}
use Rattle.csl.specs.Chain.{Chain}
use Rattle.csl.specs.Phase.{Phase}
use Rattle.csl.specs.Until.{until_phase}
pub use Rattle.verdicts.specs.Byte.{verdicts, read_as}
use Rattle.bounds.specs.Unit.{unit}
use Rattle.bounds.specs.StepValues.{Rounds}
use Rattle.rate_matrix.specs.Words.{top_of}
use Rattle.rate_matrix.specs.Shown.{Shows}
use Rattle.vectors.specs.Places.{at}
use Rattle.phase.specs.Value.{run_of, start_of, held_of, value_of}
use Rattle.phase.specs.Rounded.{StartsHeld, run_next}

-- until with undecided operand states read so; with them read as no, and as yes
abbrev pub read_phase : Bool → List ℕ → List ℕ → Phase
read_phase b first second = until_phase (λ s. read_as b (verdicts first s)) (λ s. read_as b (verdicts second s))

abbrev pub low_phase : List ℕ → List ℕ → Phase
low_phase first second = read_phase false first second

abbrev pub high_phase : List ℕ → List ℕ → Phase
high_phase first second = read_phase true first second

-- the end of state s that a reading starts from: its lower one with undecided read as no, its upper one with undecided read as yes
abbrev pub end_of : Bool → (l : List ℕ) (n : ℕ) → ℕ → ℕ
end_of true l n s = at l (n + s)
end_of false l n s = at l s

-- the value of state s at step k of a phase that starts from there
abbrev pub value_from : (mv first second l : List ℕ) (n q : ℕ) → Bool → ℕ → ℕ → ℕ
value_from mv first second l n q b = run_of mv (length mv) q (λ i. unit * end_of b l n i) (held_of (read_phase b first second))

-- until starts as it holds
until_held : (n : ℕ) (a b : ℕ → Bool) → StartsHeld n (until_phase a b) (start_of (until_phase a b))
until_held n a b = record { ones = λ s l e. rw e refl; nils = λ s l e f. rw e refl }

-- so its values are exact at step 0, whichever way undecided operand states are read
pub reading_rounds : {c : Chain} {mv : List ℕ} {m n : ℕ} (b : Bool) (first second : List ℕ) → Shows c mv m n
    → Rounds c (read_phase b first second) (value_of mv m (top_of mv m n) (read_phase b first second))
unfolding run_of
reading_rounds {n = n} b first second p =
    record {
      start = λ s l. refl;
      next = run_next p (λ s l. refl) (until_held n (λ s. read_as b (verdicts first s)) (λ s. read_as b (verdicts second s)));
    }
