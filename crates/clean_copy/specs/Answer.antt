-- What copying answers, and what it leaves of what is laid in words. Assumes nothing.
use Rattle.std.specs.Prelude.{cond, List, ℕ, length, ltb, Option, None, Some, Result, Ok, Err}
use Rattle.csl.specs.Text.{Text}
use Rattle.csl.specs.Copy as csl
use Rattle.verdicts.specs.Refusal.{number_of}
use Rattle.verdicts.specs.declared.refusal.Refusal.{Refusal}

-- the paper's answer
abbrev pub answer_of : Result ℕ Refusal → csl.CopyAnswer
answer_of (Ok length) = csl.copied length
answer_of (Err refusal) = csl.copy_refused (number_of refusal)

-- "17 when the buffer for the copy is too short"
abbrev pub short_for : Text → ℕ → Option ℕ
short_for copy lent = cond (ltb lent (length copy)) (Some 17) None

-- the copy is in the buffer, or the buffer is too short for it
abbrev pub CopiedAs : Text → (before : List ℕ) → Result ℕ Refusal → (after : List ℕ) → Type 0
CopiedAs copy before a after = csl.CopiedBy (short_for copy (length before)) copy before (answer_of a) after
