-- The lines from one state: how long they are, and how they are written. Assumes nothing.
use Rattle.std.specs.Prelude.{◌≡◌, refl, List, [], ℕ, ◌+◌, ◌<◌, length}
use Rattle.std.proofs.Common.{arith}
use Rattle.csl.specs.Copy.{lines_text, pairs_from}
use Rattle.numbers.specs.Filled.{at}
use Rattle.decimals.specs.Place.{Room, Wrote}
use Rattle.decimals.specs.Writing.{wrote_none}
use Rattle.decimals.specs.Growing.{length_next, part_room, part_wrote}
use Rattle.clean_copy.specs.Row.{pair_text, row_lines, row_next}

module _ (rates : List ℕ) (s : ℕ) where
  row_none : row_lines rates s 0 ≡ []
  unfolding row_lines pairs_from lines_text
  row_none = refl

  -- how long they are: those to no state, and to one more
  pub measure_none : 0 ≡ length (row_lines rates s 0)
  measure_none = rw row_none refl

  pub measure_more : (t : ℕ) {size k : ℕ} → size ≡ length (row_lines rates s t) → k ≡ length (pair_text s t (at rates t))
      → size + k ≡ length (row_lines rates s (t + 1))
  measure_more t e h =
      omega (arith, length_next (row_lines rates s) (λ i. pair_text s i (at rates i)) (t + 1) (λ i b. row_next rates s i) t (omega arith))

  -- written: none, room for the next, one more
  pub write_none : (at : ℕ) (old : List ℕ) → Wrote at (row_lines rates s 0) old old at
  write_none at old = rw row_none (wrote_none at old)

  module _ (t : ℕ) {place m : ℕ} {old mid : List ℕ} (h : t < length rates) (room : Room place (row_lines rates s (length rates)) old)
      (w : Wrote place (row_lines rates s t) old mid m) where
    pub write_room : length mid ≡ length old → Room m (pair_text s t (at rates t)) mid
    write_room e = part_room (row_lines rates s) (λ i. pair_text s i (at rates i)) (length rates) (λ i b. row_next rates s i) t h room w e

    pub write_more : {r : ℕ} {new : List ℕ} → Wrote m (pair_text s t (at rates t)) mid new r → Wrote place (row_lines rates s (t + 1)) old new r
    write_more v = part_wrote (row_lines rates s) (λ i. pair_text s i (at rates i)) (length rates) (λ i b. row_next rates s i) t h room w v
