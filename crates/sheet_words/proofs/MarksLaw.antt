-- The marks, on a part of the vector words. Assumes nothing.
use mathlib.Core.Path.{◌≡◌, sym}
use mathlib.Core.List.{List}
use Prim.Native.Nat.{ℕ}
use native.Mathlib.Omega.{arith}
use Rattle.csl.specs.Text.{Text}
use Rattle.csl.specs.Labels.{states_of}
use Rattle.numbers.specs.Filled.{Filled, Table}
use Rattle.numbers.specs.Part.{rest, back, part_filled}
use Rattle.labels.specs.Words.{state_word}
use Rattle.vectors.specs.Places.{marks_from}
use Rattle.sheet_words.specs.Stored.{MarksAsked}

-- from where the marks begin
pub marks_stored : {labels : Text} {names n : ℕ} {xs ys : List ℕ} → MarksAsked labels names xs n → {f : ℕ} → f ≡ marks_from n
    → Table (state_word labels) (rest xs f) ys (states_of labels) → Filled (state_word labels) (marks_from n) n xs (back xs f ys)
marks_stored {n = n} {xs = xs} {ys = ys} p {f = f} e t =
    rw e (part_filled xs (marks_from n) (omega (arith, p.long)) (rw (e, sym p.states) at t))
