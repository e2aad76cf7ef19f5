-- The numbers of refusals: documents 01 and 02, "Turned-back jobs". Assumes nothing.
use Rattle.std.specs.Prelude.{◌≡◌, ◌≢◌, ℕ, Option, Some, None, Result, Ok, Err, MatchResult}
use Rattle.verdicts.specs.declared.refusal.Refusal.{Refusal}
use Rattle.verdicts.specs.declared.refusal.StrangeNumber.{StrangeNumber}
use Rattle.verdicts.specs.declared.refusal.Refusal.TheVariants.{OutOfBytes, BrokenLayout, WrongFirstLine, WrongStates, ManyMoves, StrangeState, WrongRate, NoFormula, LargeFormula, StrangeLabel, WrongBound, HighLoad, ShortBuffer, WrongTimes, ShortCopy}

-- "A refusal prints `refused` and, on the next line, its number."
abbrev pub number_of : Refusal → ℕ
number_of OutOfBytes = 1
number_of BrokenLayout = 2
number_of WrongFirstLine = 3
number_of WrongStates = 4
number_of ManyMoves = 5
number_of StrangeState = 6
number_of WrongRate = 9
number_of NoFormula = 10
number_of LargeFormula = 11
number_of StrangeLabel = 12
number_of WrongBound = 13
number_of HighLoad = 14
number_of ShortBuffer = 15
number_of WrongTimes = 16
number_of ShortCopy = 17

-- the number that a result is turned back with, if it is
abbrev pub refusal_in : {A : Type 0} → Result A Refusal → Option ℕ
refusal_in (Ok x) = None
refusal_in (Err refusal) = Some (number_of refusal)

-- the refusal with this number, or the number where none has it
abbrev pub Decodes : ℕ → Result Refusal StrangeNumber → Type 0
Decodes number r =
    MatchResult r (λ refusal. number_of refusal ≡ number) (λ e. (e.0 ≡ number) × ((refusal : Refusal) → number_of refusal ≢ number))
