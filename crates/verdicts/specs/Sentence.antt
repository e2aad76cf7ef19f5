-- The sentences of refusals: what a program says behind `refused, since `. Assumes nothing.
use Rattle.std.specs.Prelude.{ℕ, List, codes}
use Rattle.verdicts.specs.declared.refusal.Refusal.{Refusal}
use Rattle.verdicts.specs.declared.refusal.Refusal.TheVariants.{OutOfBytes, BrokenLayout, WrongFirstLine, WrongStates, ManyMoves, StrangeState, WrongRate, NoFormula, LargeFormula, StrangeLabel, WrongBound, HighLoad, ShortBuffer, WrongTimes, ShortCopy}

abbrev pub sentence_of : Refusal → List ℕ
sentence_of OutOfBytes = codes "a text is empty (or its file cannot be opened) or over its byte limit."
sentence_of BrokenLayout = codes "a line after the first breaks its layout, or the last line feed is missing, in moves.txt or labels.txt."
sentence_of WrongFirstLine = codes "the first line of moves.txt or labels.txt, or a name in it, is wrong, or it has over 16 names."
sentence_of WrongStates = codes "labels.txt has no state, over 512 states, or state numbers out of turn."
sentence_of ManyMoves = codes "moves.txt has over 4,096 lines of moves."
sentence_of StrangeState = codes "a move names a state that labels.txt lacks."
sentence_of WrongRate = codes "a rate is 0, or the rates out of a state are over 64,000,000."
sentence_of NoFormula = codes "formula.txt breaks the grammar."
sentence_of LargeFormula = codes "the formula has over 64 nodes or is over 16 deep."
sentence_of StrangeLabel = codes "the formula has a label name that the first line of labels.txt lacks."
sentence_of WrongBound = codes "a threshold is over 1,000,000,000 or hours are over 8,760."
sentence_of HighLoad = codes "the greatest exit rate (to other states) times the hours of an until, or of one of its two phases, is over 64,000,000."
sentence_of ShortBuffer = codes "a lent buffer is too short."
sentence_of WrongTimes = codes "the first of an until's two times exceeds the second."
sentence_of ShortCopy = codes "the buffer for the copy is too short."
