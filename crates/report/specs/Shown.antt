-- What the program's rows stand for: the lines of a listing, a listing, and both. Assumes nothing.
use Rattle.std.specs.Prelude.{Option, List, ℕ, length, leb}
use Rattle.csl.specs.Text.{Text}
use Rattle.csl.specs.Report.{row_text}
use Rattle.csl.specs.Finished.{accepted_with}
use Rattle.report.specs.declared.listings.Listing.{Listing}
use Rattle.report.specs.declared.rows.Rows.{Rows}
use Rattle.report.specs.Listing.{entry, verdict_in, state_at, rows, listing, listings}
use Rattle.report.specs.Rendering.{Rendering}

-- the line of a state; the one at a place of a listing
abbrev pub line_of : ℕ → Rows → Text
line_of s r = row_text s (entry r.lower.now s) (entry r.upper.now s) r.depth (verdict_in r.verdicts.now s)

abbrev pub line_at : Listing → ℕ → Rows → Text
line_at which place r = line_of (state_at which place r.order.now) r

-- all lines of a listing; with the line of names
abbrev pub rows_of : Listing → Rows → Text
rows_of which r = rows which r.states r.depth r.lower.now r.upper.now r.verdicts.now r.order.now

abbrev pub listing_of : Listing → Rows → Text
listing_of which r = listing which r.states r.depth r.lower.now r.upper.now r.verdicts.now r.order.now

-- both listings
abbrev pub listings_of : Rows → Text
listings_of r = listings r.states (accepted_with r.depth) r.lower.now r.upper.now r.verdicts.now r.order.now

-- they were put into a buffer, or it was too short for them
abbrev pub Shown : Rows → (old new : List ℕ) → Option ℕ → Type 0
Shown r old new a = Rendering (leb (length (listings_of r)) (length old)) (listings_of r) old new a
