-- Buffers that are not too short. Assumes nothing.
use Rattle.std.specs.Prelude.{◌≡◌, false, ℕ, ◌*◌, ◌≤◌, ltb}
use Rattle.std.proofs.Common.{ltb-false}
use Rattle.csl.specs.Text.{any}
use Rattle.csl.specs.Limits.{move_places}
use Rattle.csl.specs.Lent.{Buffers, needed, rooms, is_short}
use Rattle.accepted.specs.Order.{neither}
use Rattle.vectors.specs.Places.{vector_length}
use Rattle.verdict_rows.specs.Row.{rows_length}

-- with n states, m move lines and k nodes
pub record HasRoom (n m k : ℕ) (l : Buffers ℕ) : Type 0 where
  pub lower : n ≤ l.lower
  pub upper : n ≤ l.upper
  pub verdicts : n ≤ l.verdicts
  pub order : n ≤ l.order
  pub moves : move_places * m ≤ l.moves
  pub vectors : vector_length n ≤ l.vectors
  pub marks : rows_length n k ≤ l.marks

pub has_room : (l : Buffers ℕ) (n m k : ℕ) → is_short l (needed n m k) ≡ false → HasRoom n m k l
unfolding is_short any rooms
has_room l n m k h =
    let a = neither (ltb l.lower n) _ h in
    let b = neither (ltb l.upper n) _ a.1 in
    let c = neither (ltb l.verdicts n) _ b.1 in
    let d = neither (ltb l.order n) _ c.1 in
    let e = neither (ltb l.moves (move_places * m)) _ d.1 in
    let f = neither (ltb l.vectors (vector_length n)) _ e.1 in
    let g = neither (ltb l.marks (rows_length n k)) _ f.1 in
    record {
      lower = ltb-false _ _ a.0;
      upper = ltb-false _ _ b.0;
      verdicts = ltb-false _ _ c.0;
      order = ltb-false _ _ d.0;
      moves = ltb-false _ _ e.0;
      vectors = ltb-false _ _ f.0;
      marks = ltb-false _ _ g.0;
    }
