-- The two listings of a report whose ends, verdict bytes and order stand in lists. Assumes nothing.
use Rattle.std.specs.Prelude.{◌≡◌, Option, None, Some, Bool, true, ◌&&◌, List, ◌++◌, ℕ, ◌+◌, ◌≤◌, ◌<◌, length, take, get_or, leb, ltb}
use Rattle.csl.specs.Text.{Text, every}
use Rattle.csl.specs.Verdicts.{Verdict}
use Rattle.csl.specs.Order.{by_number}
use Rattle.csl.specs.Report.{rows_text, listing_text, refusal_text}
use Rattle.csl.specs.Finished.{Answer, refused_with, accepted_with}
use Rattle.verdicts.specs.Byte.{verdict_at}
use Rattle.report.specs.declared.listings.Listing.{Listing}
use Rattle.report.specs.declared.listings.Listing.TheVariants.{ByNumber, WorstFirst}

-- the number, and the verdict, of a state; a byte over 2 counts as undecided
abbrev pub entry : List ℕ → ℕ → ℕ
entry l s = get_or l s 0

abbrev pub verdict_in : List ℕ → ℕ → Verdict
verdict_in l s = verdict_at (get_or l s 0)

-- the text for an answer: of an accepted job the listing of n states by their numbers, and that of the states as they stand in the order
unfoldable pub listings : ℕ → Answer → (lower upper verdicts order : List ℕ) → Text
listings n (refused_with number) lower upper verdicts order = refusal_text number
listings n (accepted_with depth) lower upper verdicts order =
    listing_text (by_number n) (entry lower) (entry upper) depth (verdict_in verdicts)
    ++ listing_text (take n order) (entry lower) (entry upper) depth (verdict_in verdicts)

-- the first n states of a listing, and the one at a place of it
abbrev pub listed : Listing → ℕ → List ℕ → List ℕ
listed ByNumber n order = by_number n
listed WorstFirst n order = take n order

abbrev pub state_at : Listing → ℕ → List ℕ → ℕ
state_at ByNumber i order = i
state_at WorstFirst i order = get_or order i 0

-- their lines; with the line of names
unfoldable pub rows : Listing → ℕ → ℕ → (lower upper verdicts order : List ℕ) → Text
rows w n depth lower upper verdicts order = rows_text (listed w n order) (entry lower) (entry upper) depth (verdict_in verdicts)

unfoldable pub listing : Listing → ℕ → ℕ → (lower upper verdicts order : List ℕ) → Text
listing w n depth lower upper verdicts order = listing_text (listed w n order) (entry lower) (entry upper) depth (verdict_in verdicts)

-- each of the first n numbers of the order is that of a state
abbrev pub are_states : ℕ → List ℕ → Bool
are_states n order = every (λ s. ltb s n) (take n order)

-- each of the n states has its ends, its verdict byte and a place in the order, and the order has states alone
abbrev pub has_all : ℕ → (lower upper verdicts order : List ℕ) → Bool
has_all n lower upper verdicts order =
    leb n (length lower) && leb n (length upper) && leb n (length verdicts) && leb n (length order) && are_states n order

pub record Complete (n : ℕ) (lower upper verdicts order : List ℕ) : Type 0 where
  pub lowers : n ≤ length lower
  pub uppers : n ≤ length upper
  pub bytes : n ≤ length verdicts
  pub places : n ≤ length order
  pub states : are_states n order ≡ true

-- what the text leaves of a room; none where it is longer
abbrev pub Leaves : Text → ℕ → Option ℕ → Type 0
Leaves text room (Some left) = left + length text ≡ room
Leaves text room None = room < length text
