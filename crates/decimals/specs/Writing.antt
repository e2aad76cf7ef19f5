-- Laws of writing texts one behind the other. Assumes nothing.
use Rattle.std.specs.Prelude.{◌≡◌, refl, List, [], ◌∷◌, ◌++◌, ℕ, ◌+◌, ◌<◌, length, take, drop, set}
use Rattle.std.proofs.Common.{sym, ap, ◌∙◌, append_assoc, arith, add-one, length-append, length-drop, take-append-drop, length-take-le, take_at, drop_at, drop-drop}
use Rattle.std.proofs.lemmas.List.{set_split}
use Rattle.csl.specs.Text.{Text}
use Rattle.csl.specs.Lent.{written}
use Rattle.decimals.specs.Place.{written_at, Room, Wrote}

-- the buffer keeps its length
pub written_length : (at : ℕ) (text : Text) (old : List ℕ) → Room at text old → length (written_at at text old) ≡ length old
unfolding written_at written
written_length at text old h =
    simp (length-append, length-drop) (omega (arith, length-take-le at old (omega arith)))

-- a text behind another
pub written_more : (at : ℕ) (t u : Text) (old : List ℕ) → Room at t old
    → written_at (at + length t) u (written_at at t old) ≡ written_at at (t ++ u) old
unfolding written_at written
written_more at t u old h =
    let n : length (take at old) ≡ at = length-take-le at old (omega arith) in
    let m : length (take at old ++ t) ≡ at + length t = length-append (take at old) t ∙ ap (λ (k : ℕ). k + length t) n in
    rw (
      ← append_assoc (take at old) t (drop (length t) (drop at old)),
      take_at (take at old ++ t) (drop (length t) (drop at old)) (at + length t) m,
      drop_at (take at old ++ t) (drop (length t) (drop at old)) (at + length t) m,
      drop-drop (length u) (length t) (drop at old),
      length-append t u,
    ) (simp append_assoc)

-- nothing
pub wrote_none : (at : ℕ) (old : List ℕ) → Wrote at [] old old at
unfolding written_at written
wrote_none at old = record { after = omega arith; holds = sym (take-append-drop at old) }

-- one byte
pub wrote_byte : (at b : ℕ) (old : List ℕ) → at < length old → Wrote at (b ∷ []) old (set old at b) (at + 1)
unfolding written_at written
wrote_byte at b old h =
    record { after = refl; holds = set_split old at b h ∙ rw (drop-drop 1 at old, add-one at) }

-- a text behind another
pub wrote_more : {at m r : ℕ} {t u : Text} {old mid new : List ℕ} → Room at t old
    → Wrote at t old mid m → Wrote m u mid new r → Wrote at (t ++ u) old new r
wrote_more {at} {m} {r} {t} {u} {old} room w v =
    record {
      after = omega (arith, w.after, v.after, length-append t u);
      holds = v.holds ∙ rw (w.after, w.holds) (written_more at t u old room);
    }

pub wrote_length : {at r : ℕ} {t : Text} {old new : List ℕ} → Room at t old → Wrote at t old new r → length new ≡ length old
wrote_length {at} {r} {t} {old} room w = ap length w.holds ∙ written_length at t old room
