-- The whole copy: how long it is, and how it is written. Assumes nothing.
use Rattle.std.specs.Prelude.{◌≡◌, refl, List, [], ◌++◌, ℕ, ◌+◌, ◌<◌, length}
use Rattle.std.proofs.Common.{arith, ap}
use Rattle.csl.specs.Text.{bytes}
use Rattle.csl.specs.Copy.{lines_text, pairs_below}
use Rattle.decimals.specs.Place.{Room, Wrote}
use Rattle.decimals.specs.Writing.{wrote_none, wrote_more}
use Rattle.decimals.specs.Growing.{length_next, part_room, part_wrote}
use Rattle.clean_copy.specs.declared.rates.Rates.{Rates}
use Rattle.clean_copy.specs.Row.{row_lines}
use Rattle.clean_copy.specs.Laid.{Gathered}
use Rattle.clean_copy.specs.Rates.{rate_from, lines_below, lines_of, copy_of}
use Rattle.clean_copy.specs.Whole.{lines_to, copy_is, lines_next, lines_gathered}

module _ (r : Rates) where
  lines_none : lines_below r 0 ≡ []
  unfolding lines_to lines_text pairs_below
  lines_none = refl

  next : (s : ℕ) → s < r.states → lines_below r (s + 1) ≡ lines_below r s ++ lines_of r s
  next s h = lines_next r.rows.now r.columns.now r.states s

  copy_size : length (copy_of r) ≡ 13 + length (lines_below r r.states)
  copy_size = omega (arith, ap length (copy_is r.rows.now r.columns.now r.states))

  -- how long it is: with the lines from no state, from one more, from all
  pub measure_none : 13 ≡ 13 + length (lines_below r 0)
  measure_none = omega (arith, ap length lines_none)

  pub measure_all : (s : ℕ) {size : ℕ} → size ≡ 13 + length (lines_below r s) → s ≡ r.states → size ≡ length (copy_of r)
  measure_all s e h = omega (arith, copy_size, ap (λ (i : ℕ). length (lines_below r i)) h)

  -- written: none
  pub write_none : (at : ℕ) (old : List ℕ) → Wrote at (lines_below r 0) old old at
  write_none at old = rw lines_none (wrote_none at old)

  -- the lines from one state, whose rates were added up
  module _ (s : ℕ) (h : s < r.states) (totals : List ℕ) (l : length totals ≡ r.states) (g : Gathered (rate_from r s) r.states totals) where
    row_is : row_lines totals s (length totals) ≡ lines_of r s
    row_is = rw l (lines_gathered r.rows.now r.columns.now r.states totals s g)

    pub measure_more : {size k : ℕ} → size ≡ 13 + length (lines_below r s) → k ≡ length (row_lines totals s (length totals))
        → size + k ≡ 13 + length (lines_below r (s + 1))
    measure_more e q = omega (arith, ap length row_is, length_next (lines_below r) (lines_of r) r.states next s h)

    module _ {at m : ℕ} {old mid : List ℕ} (room : Room at (lines_below r r.states) old) (w : Wrote at (lines_below r s) old mid m) where
      pub write_room : length mid ≡ length old → Room m (row_lines totals s (length totals)) mid
      write_room e = rw row_is (part_room (lines_below r) (lines_of r) r.states next s h room w e)

      pub write_more : {k : ℕ} {new : List ℕ} → Wrote m (row_lines totals s (length totals)) mid new k → Wrote at (lines_below r (s + 1)) old new k
      write_more v = part_wrote (lines_below r) (lines_of r) r.states next s h room w (rw row_is at v)

  -- the first line, and the lines behind it
  module _ (old : List ℕ) (room : Room 0 (copy_of r) old) where
    pub first_room : Room 0 (bytes "from,to,rate\n") old
    first_room = omega (arith, copy_size)

    module _ {a : ℕ} {mid : List ℕ} (w : Wrote 0 (bytes "from,to,rate\n") old mid a) where
      pub lines_room : length mid ≡ length old → Room a (lines_below r r.states) mid
      lines_room e = omega (arith, copy_size)

      pub copy_wrote : {k : ℕ} {new : List ℕ} → Wrote a (lines_below r r.states) mid new k → Wrote 0 (copy_of r) old new k
      copy_wrote v = rw (copy_is r.rows.now r.columns.now r.states) (wrote_more first_room w v)

pub ruleset copy_laws = (first_room, lines_room, copy_wrote)
