-- A text that is copied to a place. Assumes nothing.
use Rattle.std.specs.Prelude.{◌≡◌, refl, List, ℕ, ◌+◌, length}
use borrow.Rule.Slice.PartMut.{put_mid}
use Rattle.csl.specs.Lent.{written}
use Rattle.decimals.specs.Place.{written_at, Wrote}

-- the bytes from the place on, as many as the text has, are the text's
pub copied : (at k : ℕ) (text old part : List ℕ) → part ≡ text → k ≡ length text → Wrote at text old (put_mid at k old part) (at + length text)
unfolding written_at written
copied at k text old part e h = record { after = refl; holds = rw (e, h) refl }
