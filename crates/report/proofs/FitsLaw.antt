-- Whether a text fits, and what is answered and left where it does and where it does not. Assumes nothing.
use Rattle.std.specs.Prelude.{◌≡◌, refl, Option, None, Some, Bool, true, false, List, [], ◌∷◌, ℕ, ◌+◌, ◌≤◌, ◌<◌, length, leb}
use Rattle.std.proofs.Common.{sym, ap, ◌∙◌, arith, length-append, le-leb}
use borrow.Author.Tests.{lt-leb}
use Rattle.std.specs.Option.{is_some}
use Rattle.csl.specs.Text.{Text, bytes}
use Rattle.csl.specs.Line.{line_feed}
use Rattle.csl.specs.Report.{decimal, refusal_text}
use Rattle.csl.specs.Finished.{accepted_with, refused_with}
use Rattle.decimals.specs.Place.{written_at, Room, Wrote}
use Rattle.decimals.specs.Writing.{wrote_more}
use Rattle.report.specs.declared.listings.Listing.TheVariants.{ByNumber, WorstFirst}
use Rattle.report.specs.declared.rows.Rows.{Rows}
use Rattle.report.specs.Listing.{listings, listing, has_all, Leaves}
use Rattle.report.specs.Shown.{listing_of, listings_of}
use Rattle.report.specs.Rendering.{fits, Rendering, Printed}
use Rattle.report.specs.Refused.{refusal_length}

-- it does not, it does
pub short : {fit : Bool} (text : Text) (old : List ℕ) → fit ≡ false → Rendering fit text old old None
short text old e = rw e (record { answer = refl; buffer = refl })

pub shown : {fit : Bool} {text : Text} {old new : List ℕ} {r : ℕ} → fit ≡ true → Wrote 0 text old new r → Rendering fit text old new (Some r)
unfolding written_at
shown {text = text} e w = rw e (record { answer = ap (λ (n : ℕ). Some n) (w.after ∙ omega arith); buffer = w.holds })

-- a refusal
pub refusal_short : (n : ℕ) (old : List ℕ) → length old < length (decimal n) + 9
    → Rendering (leb (length (refusal_text n)) (length old)) (refusal_text n) old old None
refusal_short n old h = short _ old (lt-leb (length (refusal_text n)) (length old) (omega (arith, refusal_length n)))

pub refusal_room : (n : ℕ) {k : ℕ} (old : List ℕ) → k ≡ length (decimal n) → k + 9 ≤ length old → Room 0 (refusal_text n) old
refusal_room n old e h = omega (arith, refusal_length n)

pub refusal_shown : (n : ℕ) {k r : ℕ} {old new : List ℕ} → k ≡ length (decimal n) → k + 9 ≤ length old → Wrote 0 (refusal_text n) old new r
    → Rendering (leb (length (refusal_text n)) (length old)) (refusal_text n) old new (Some r)
refusal_shown n {old = old} e h w = shown (le-leb (length (refusal_text n)) (length old) (omega (arith, refusal_length n))) w

-- its three parts, one behind the other
module _ (n : ℕ) (old : List ℕ) (room : Room 0 (refusal_text n) old) where
  pub word_room : Room 0 (bytes "refused\n") old
  word_room = omega (arith, refusal_length n)

  module _ {a : ℕ} {o₁ : List ℕ} (w₁ : Wrote 0 (bytes "refused\n") old o₁ a) (e : length o₁ ≡ length old) where
    pub number_room : Room a (decimal n) o₁
    number_room = omega (arith, refusal_length n)

    module _ {b : ℕ} {o₂ : List ℕ} (w₂ : Wrote a (decimal n) o₁ o₂ b) where
      pub end_room : length o₂ ≡ length o₁ → Room b (line_feed ∷ []) o₂
      end_room f = omega (arith, refusal_length n)

      pub refusal_wrote : {r : ℕ} {new : List ℕ} → Wrote b (line_feed ∷ []) o₂ new r → Wrote 0 (refusal_text n) old new r
      unfolding refusal_text
      refusal_wrote w₃ =
          wrote_more (simp length-append (omega (arith, refusal_length n))) (wrote_more (omega (arith, refusal_length n)) w₁ w₂) w₃

pub ruleset refusal_laws = (word_room, number_room, end_room, refusal_wrote)

module _ (r : Rows) where
  -- the two listings: how long both are
  pub both_length : length (listings_of r) ≡ length (listing_of ByNumber r) + length (listing_of WorstFirst r)
  unfolding listings listing
  both_length = length-append (listing_of ByNumber r) (listing_of WorstFirst r)

  -- no room for the first; what it leaves decides with the second
  pub first_short : (room : ℕ) → room < length (listing_of ByNumber r) → false ≡ leb (length (listings_of r)) room
  first_short room h = sym (lt-leb (length (listings_of r)) room (omega (arith, both_length)))

  pub second_tells : (room left : ℕ) (a : Option ℕ) → left + length (listing_of ByNumber r) ≡ room → Leaves (listing_of WorstFirst r) left a
      → is_some a ≡ leb (length (listings_of r)) room
  second_tells room left None e h = sym (lt-leb (length (listings_of r)) room (omega (arith, both_length)))
  second_tells room left (Some rest) e h = sym (le-leb (length (listings_of r)) room (omega (arith, both_length)))

  -- one written, then the other
  module _ (old : List ℕ) (room : length (listings_of r) ≤ length old) where
    pub first_room : Room 0 (listing_of ByNumber r) old
    first_room = omega (arith, both_length)

    pub second_room : {a : ℕ} {mid : List ℕ} → Wrote 0 (listing_of ByNumber r) old mid a → length mid ≡ length old
        → Room a (listing_of WorstFirst r) mid
    second_room w q = omega (arith, both_length)

    pub both_wrote : {a n : ℕ} {mid new : List ℕ} → Wrote 0 (listing_of ByNumber r) old mid a
        → Wrote a (listing_of WorstFirst r) mid new n → Wrote 0 (listings_of r) old new n
    unfolding listings listing
    both_wrote w v = wrote_more first_room w v

-- the answer for rows that are not all there, for rows that are, and for a refusal
module _ (n : ℕ) (l u b o old : List ℕ) where
  pub report_lacks : (d : ℕ) → false ≡ has_all n l u b o → Printed n (accepted_with d) l u b o old old None
  unfolding fits
  report_lacks d e = short _ old (rw (← e) refl)

  module _ {new : List ℕ} {r : Option ℕ} where
    pub report_shown : (d : ℕ) → true ≡ has_all n l u b o
        → Rendering (leb (length (listings n (accepted_with d) l u b o)) (length old)) (listings n (accepted_with d) l u b o) old new r
        → Printed n (accepted_with d) l u b o old new r
    unfolding fits
    report_shown d e p = rw (← e) p

    pub refusal_printed : (k : ℕ) → Rendering (leb (length (refusal_text k)) (length old)) (refusal_text k) old new r
        → Printed n (refused_with k) l u b o old new r
    unfolding fits listings
    refusal_printed k p = p
