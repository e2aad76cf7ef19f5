-- The text for moves that are to be copied, whatever the bytes of the two texts: "A refusal prints `refused` and, on the next line, its number";
-- else it is the copy. Assumes nothing.
use Rattle.std.specs.Prelude.{◌≡◌, List, length, ℕ, Option, None, Some}
use Rattle.csl.specs.Text.{Text}
use Rattle.csl.specs.Report.{refusal_text}
use Rattle.csl.specs.Lent.{written}
use Rattle.csl.specs.Refusal.{sheet_tests, first_of}
use Rattle.csl.specs.Copy.{copy_text}
use Rattle.console.specs.Told.{number_told}
use Rattle.console.specs.declared.printing.Written.{Written}

abbrev pub printed_by : Option ℕ → Text → Text
printed_by (Some number) copy = refusal_text number
printed_by None copy = copy

-- by the two texts alone: the program lends a buffer that is long enough for every copy
unfoldable pub printed_copy : (moves labels : Text) → Text
printed_copy moves labels = printed_by (first_of (sheet_tests moves labels)) (copy_text moves labels)

-- the text stands at the front of a buffer, whose other bytes are as they were; its length and the refusal are answered
pub record CopyWritten (moves labels : Text) (old new : List ℕ) (r : Written) : Type 0 where
  pub count : r.length ≡ length (printed_copy moves labels)
  pub number : number_told r.refusal ≡ first_of (sheet_tests moves labels)
  pub buffer : new ≡ written (printed_copy moves labels) old
