-- What rendering answers and leaves in the buffer. Assumes nothing.
use Rattle.std.specs.Prelude.{◌≡◌, Option, None, Some, Bool, true, false, ◌&&◌, List, ℕ, length, leb}
use Rattle.csl.specs.Text.{Text}
use Rattle.csl.specs.Lent.{written}
use Rattle.csl.specs.Finished.{Answer, refused_with, accepted_with}
use Rattle.report.specs.Listing.{listings, has_all}

-- the numbers that the text for an answer takes are there, and those of the order are states': a refusal takes none
abbrev pub is_complete : ℕ → Answer → (lower upper verdicts order : List ℕ) → Bool
is_complete n (refused_with number) lower upper verdicts order = true
is_complete n (accepted_with depth) lower upper verdicts order = has_all n lower upper verdicts order

-- they are, and the text fits a buffer of so many bytes
unfoldable pub fits : ℕ → ℕ → Answer → (lower upper verdicts order : List ℕ) → Bool
fits room n a lower upper verdicts order =
    is_complete n a lower upper verdicts order && leb (length (listings n a lower upper verdicts order)) room

-- the answer: the length of the text, or none
abbrev pub answered : Bool → Text → Option ℕ
answered true text = Some (length text)
answered false text = None

-- the buffer: the text is in its first bytes, or it is as it was
abbrev pub left : Bool → Text → List ℕ → List ℕ
left true text old = written text old
left false text old = old

-- both, where `fit` says whether the text fits
pub record Rendering (fit : Bool) (text : Text) (old new : List ℕ) (r : Option ℕ) : Type 0 where
  pub answer : r ≡ answered fit text
  pub buffer : new ≡ left fit text old

-- the text for an answer was put into a buffer, or the buffer was too short for it, or a number was not there or no state's
abbrev pub Printed : ℕ → Answer → (lower upper verdicts order old new : List ℕ) → Option ℕ → Type 0
Printed n a lower upper verdicts order old new r =
    Rendering (fits (length old) n a lower upper verdicts order) (listings n a lower upper verdicts order) old new r
