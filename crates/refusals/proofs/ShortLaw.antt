-- Whether a lent buffer is too short, buffer by buffer. Assumes nothing.
use mathlib.Core.Path.{◌≡◌, refl}
use mathlib.Core.Bool.{Bool, true, false, ◌||◌}
use Prim.Native.Nat.{ℕ, ◌*◌}
use lib.Dec.{ltb}
use Rattle.csl.specs.Text.{any}
use Rattle.csl.specs.Lent.{Buffers, needed, rooms, is_short}
use Rattle.vectors.specs.Places.{vector_length}
use Rattle.verdict_rows.specs.Row.{rows_length}

in_turn_lem : (a b c d e f g : Bool) → ((a || b || c || d) || (e || f) || g) ≡ (a || (b || (c || (d || (e || (f || (g || false)))))))
in_turn_lem true b c d e f g = refl
in_turn_lem false true c d e f g = refl
in_turn_lem false false true d e f g = refl
in_turn_lem false false false true e f g = refl
in_turn_lem false false false false true f g = refl
in_turn_lem false false false false false true g = refl
in_turn_lem false false false false false false true = refl
in_turn_lem false false false false false false false = refl

pub short_listed : (l : Buffers ℕ) (n m k : ℕ) {v b : ℕ} → v ≡ vector_length n → b ≡ rows_length n k
    → ((ltb l.lower n || ltb l.upper n || ltb l.verdicts n || ltb l.order n) || (ltb l.moves (2 * m) || ltb l.vectors v)
    || ltb l.marks b)
    ≡ is_short l (needed n m k)
unfolding is_short any rooms
short_listed l n m k e h =
    rw (e, h)
    (in_turn_lem (ltb l.lower n) (ltb l.upper n) (ltb l.verdicts n) (ltb l.order n) (ltb l.moves (2 * m)) (ltb l.vectors (vector_length n))
    (ltb l.marks (rows_length n k)))
