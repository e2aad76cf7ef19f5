-- The clean copy: "A writer takes moves and labels, tests 1 to 9, and makes the moves text that document 01 described, moves to the own state
-- included, pairs rising and none twice." Assumes nothing.
use Rattle.std.specs.Prelude.{◌≡◌, ℕ, zero, suc, Bool, true, cond, ◌&&◌, ◌||◌, List, [], ◌∷◌, ◌++◌, length, ltb, eqb, Option, None, Some}
use Rattle.csl.specs.Text.{Text, bytes}
use Rattle.csl.specs.Line.{line_feed, comma}
use Rattle.csl.specs.Moves.{Move}
use Rattle.csl.specs.Sheet.{sheet_of}
use Rattle.csl.specs.Chain.{Chain, chain_of}
use Rattle.csl.specs.Report.{decimal}
use Rattle.csl.specs.Lent.{written}
use Rattle.csl.specs.Refusal.{test, sheet_tests, first_of}

-- "First line `from,to,rate`, then .. lines of three numbers": the moves text of a list of moves
abbrev pub move_text : Move → Text
move_text m = decimal m.from ++ (comma ∷ decimal m.to) ++ (comma ∷ decimal m.rate)

unfoldable pub lines_text : List Move → Text
lines_text [] = []
lines_text (m ∷ ms) = move_text m ++ (line_feed ∷ lines_text ms)

unfoldable pub moves_text : List Move → Text
moves_text ms = bytes "from,to,rate" ++ (line_feed ∷ lines_text ms)

-- "rising by `from` and, for equal `from`, by `to`, no pair twice"
abbrev pub is_before : Move → Move → Bool
is_before a b = ltb a.from b.from || eqb a.from b.from && ltb a.to b.to

unfoldable pub is_rising : List Move → Bool
is_rising [] = true
is_rising (a ∷ []) = true
is_rising (a ∷ b ∷ ms) = is_before a b && is_rising (b ∷ ms)

-- the pairs that have a rate, rising, each with its rate: from s to the states below t; from the states below s to those below n
unfoldable pub pairs_from : (ℕ → ℕ → ℕ) → (s t : ℕ) → List Move
pairs_from rate s zero = []
pairs_from rate s (suc t) = pairs_from rate s t ++ cond (eqb (rate s t) 0) [] (record { from = s; to = t; rate = rate s t } ∷ [])

unfoldable pub pairs_below : (ℕ → ℕ → ℕ) → (n s : ℕ) → List Move
pairs_below rate n zero = []
pairs_below rate n (suc s) = pairs_below rate n s ++ pairs_from rate s n

-- the copy, which has all pairs of a chain; and that of a sheet's two texts
unfoldable pub copy_of : Chain → Text
copy_of c = moves_text (pairs_below c.rate c.states c.states)

abbrev pub copy_text : (moves labels : Text) → Text
copy_text moves labels = copy_of (chain_of (sheet_of moves labels))

-- 17: "when the buffer for the copy is too short, tested last"
abbrev pub short_copy : (moves labels : Text) → ℕ → Bool
short_copy moves labels lent = ltb lent (length (copy_text moves labels))

-- what the two texts are turned back with, where a buffer of this length is lent
unfoldable pub copy_refusal : (moves labels : Text) → ℕ → Option ℕ
copy_refusal moves labels lent = first_of (sheet_tests moves labels ++ (test 17 (short_copy moves labels lent) ∷ []))

-- "It answers with the copy's length"
pub data CopyAnswer : Type 0 where
  copy_refused : ℕ → CopyAnswer
  copied : ℕ → CopyAnswer

-- turned back, "with the buffer untouched"; or the copy at the front of the buffer, and "bytes beyond are unchanged"
unfoldable pub CopiedBy : Option ℕ → Text → (before : List ℕ) → CopyAnswer → (after : List ℕ) → Type 0
CopiedBy (Some number) copy before a after = (a ≡ copy_refused number) × (after ≡ before)
CopiedBy None copy before a after = (a ≡ copied (length copy)) × (after ≡ written copy before)

-- the answer and the buffer after copying are as this paper has them
unfoldable pub Copied : (moves labels : Text) → (before : List ℕ) → CopyAnswer → (after : List ℕ) → Type 0
Copied moves labels before a after = CopiedBy (copy_refusal moves labels (length before)) (copy_text moves labels) before a after
