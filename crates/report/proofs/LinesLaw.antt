-- The lines of a listing's states, one behind the other. Assumes nothing.
use Rattle.std.specs.Prelude.{◌≡◌, refl, List, [], ◌∷◌, ◌++◌, ℕ, ◌+◌, ◌-◌, ◌≤◌, ◌<◌, length}
use Rattle.std.proofs.Common.{ap, arith, add-one, append_assoc, append-nil, length-append, take-suc}
use Rattle.csl.specs.Text.{Text, bytes}
use Rattle.csl.specs.Verdicts.{Verdict}
use Rattle.csl.specs.Order.{by_number}
use Rattle.csl.specs.Report.{row_text, rows_text, listing_text}
use Rattle.report.specs.declared.listings.Listing.{Listing}
use Rattle.report.specs.declared.listings.Listing.TheVariants.{ByNumber, WorstFirst}
use Rattle.report.specs.declared.rows.Rows.{Rows}
use Rattle.decimals.specs.Place.{Room, Wrote}
use Rattle.report.specs.Listing.{entry, verdict_in, listed, state_at, rows, listing}
use Rattle.report.specs.Shown.{line_at, rows_of, listing_of}
use Rattle.decimals.specs.Writing.{wrote_none, wrote_more}
use Rattle.decimals.specs.Growing.{length_next, length_among, part_room, part_wrote}

-- the lines of one state more
rows_snoc : (l : List ℕ) (s : ℕ) (lower upper : ℕ → ℕ) (d : ℕ) (v : ℕ → Verdict)
    → rows_text (l ++ (s ∷ [])) lower upper d v ≡ rows_text l lower upper d v ++ row_text s (lower s) (upper s) d (v s)
unfolding rows_text
rows_snoc [] s lower upper d v = append-nil (row_text s (lower s) (upper s) d (v s))
rows_snoc (t ∷ l) s lower upper d v = rw (rows_snoc l s lower upper d v, append_assoc) refl

-- no state; the states up to a place, and the one there
listed_none : (w : Listing) (o : List ℕ) → listed w 0 o ≡ []
unfolding by_number
listed_none ByNumber o = refl
listed_none WorstFirst o = refl

listed_next : (w : Listing) (i : ℕ) (o : List ℕ) → i < length o → listed w (i + 1) o ≡ listed w i o ++ (state_at w i o ∷ [])
unfolding by_number
listed_next ByNumber i o h = rw (add-one i) refl
listed_next WorstFirst i o h = rw (add-one i) (take-suc o i 0 h)

module _ (w : Listing) (r : Rows) where
  -- the lines before a place of the listing
  abbrev pub before : ℕ → Text
  before i = rows w i r.depth r.lower.now r.upper.now r.verdicts.now r.order.now

  -- the lines of no state, and of one more
  rows_none : before 0 ≡ []
  unfolding rows rows_text
  rows_none = rw (listed_none w r.order.now) refl

  rows_next : (i : ℕ) → i < r.states → before (i + 1) ≡ before i ++ line_at w i r
  unfolding rows
  rows_next i h =
      rw (listed_next w i r.order.now (omega (arith, r.complete.places)))
      (rows_snoc (listed w i r.order.now) (state_at w i r.order.now) (entry r.lower.now) (entry r.upper.now) r.depth (verdict_in r.verdicts.now))

  -- with the line of names
  pub listing_length : length (listing_of w r) ≡ 32 + length (rows_of w r)
  unfolding listing listing_text rows
  listing_length = length-append (bytes "state,lower,upper,depth,verdict\n") (rows_of w r)

  -- how much room is left behind the names: all of it, and what a line leaves
  pub fit_none : (room : ℕ) → 32 ≤ room → room - 32 + length (before 0) + 32 ≡ room
  fit_none room h = omega (arith, ap length rows_none)

  pub fit_more : (i : ℕ) {left room k : ℕ} → i < r.states → k ≡ length (line_at w i r) → left + length (before i) + 32 ≡ room → k ≤ left
      → left - k + length (before (i + 1)) + 32 ≡ room
  fit_more i h e p q = omega (arith, length_next before (λ k. line_at w k r) r.states rows_next i h)

  -- a line that is longer than what is left
  pub fit_no : (i k : ℕ) {left room : ℕ} → i < r.states → k ≡ length (line_at w i r) → left + length (before i) + 32 ≡ room → left < k
      → room < length (listing_of w r)
  fit_no i k h e p q = omega (arith, length_among before (λ k. line_at w k r) r.states rows_next i h, listing_length)

  -- no line is left
  pub fit_all : (i left : ℕ) {room : ℕ} → i ≤ r.states → r.states ≤ i → left + length (before i) + 32 ≡ room → left + length (listing_of w r) ≡ room
  fit_all i left h k p = let e : i ≡ r.states = omega arith in omega (arith, listing_length, ap (λ (n : ℕ). length (before n)) e)

  -- the lines written: none, room for the next, one more
  pub lines_none : (at : ℕ) (old : List ℕ) → Wrote at (before 0) old old at
  lines_none at old = rw rows_none (wrote_none at old)

  pub lines_room : (i : ℕ) {at m : ℕ} {old mid : List ℕ} → i < r.states → Room at (rows_of w r) old → Wrote at (before i) old mid m
      → length mid ≡ length old → Room m (line_at w i r) mid
  lines_room i h room x p = part_room before (λ k. line_at w k r) r.states rows_next i h room x p

  pub lines_more : (i : ℕ) {at m n : ℕ} {old mid new : List ℕ} → i < r.states → Room at (rows_of w r) old → Wrote at (before i) old mid m
      → Wrote m (line_at w i r) mid new n → Wrote at (before (i + 1)) old new n
  lines_more i h room x y = part_wrote before (λ k. line_at w k r) r.states rows_next i h room x y

  -- a listing written: room for the names, for the lines behind them, and both
  module _ (at : ℕ) (old : List ℕ) (room : Room at (listing_of w r) old) where
    pub names_room : Room at (bytes "state,lower,upper,depth,verdict\n") old
    names_room = omega (arith, listing_length)

    pub rows_room : {a : ℕ} {mid : List ℕ} → Wrote at (bytes "state,lower,upper,depth,verdict\n") old mid a → length mid ≡ length old
        → Room a (rows_of w r) mid
    rows_room x q = omega (arith, listing_length)

    pub listing_wrote : {a n : ℕ} {mid new : List ℕ} → Wrote at (bytes "state,lower,upper,depth,verdict\n") old mid a
        → Wrote a (rows_of w r) mid new n → Wrote at (listing_of w r) old new n
    unfolding listing listing_text rows
    listing_wrote x y = wrote_more names_room x y

pub ruleset listing_laws = (names_room, rows_room, listing_wrote)
