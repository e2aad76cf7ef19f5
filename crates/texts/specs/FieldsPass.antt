-- A test put to each field of the line at the start of a text, field by field. Assumes nothing.
use Rattle.std.specs.Prelude.{◌≡◌, refl, ℕ, zero, suc, Bool, true, false, cond, ◌&&◌, length, drop, get_or, leb}
use Rattle.std.proofs.Common.{sym, ◌∙◌, arith}
use Rattle.std.proofs.Math.Bool.{and-false, and-true}
use mathlib.Core.List.{List, [], ◌∷◌, ◌++◌, head_d, tail, append-nil}
use Rattle.std.proofs.Math.Dec.{eqb, eqb-suc-suc, leb-suc-suc}
use borrow.Author.Tests.{le-leb, lt-leb, ne_eqb, eqb-true, eqb-false}
use Rattle.csl.specs.Text.{Text, every}
use Rattle.csl.specs.Line.{line_feed, comma, ahead, fields_of}
use Rattle.texts.specs.LineAt.{line_at, is_ended_at, fields_at, line_feed_lem, line_byte, ended_feed}
use Rattle.texts.specs.LineAt.{ended_byte, ended_nil, fields_nil, fields_comma, fields_byte, fields_some}
use Rattle.texts.specs.Bools.{and_middle, and_swap}

-- the line at the start is ended, and its fields are so many and pass
unfoldable pub fields_pass : (Text → Bool) → ℕ → Text → Bool
fields_pass p count t = is_ended_at t && eqb (length (fields_at t)) count && every p (fields_at t)

-- the bytes d in front of the first field
abbrev pub prepend : Text → List Text → List Text
prepend d [] = d ∷ []
prepend d (p ∷ ps) = (d ++ p) ∷ ps

pub prepend_nothing : (l : Text) → fields_of l ≡ prepend [] (fields_of l)
prepend_nothing l = rw (fields_some l)

-- the byte m stands first
abbrev pub starts : ℕ → Text → Bool
starts m [] = false
starts m (c ∷ w) = eqb c m

-- a byte at a place, and what follows it
pub starts_at : (m : ℕ) (t : Text) (k : ℕ) → starts m (drop k t) ≡ cond (leb (length t) k) false (eqb (get_or t k 0) m)
starts_at m [] zero = refl
starts_at m [] (suc k) = rw (le-leb 0 (suc k) (omega arith))
starts_at m (c ∷ t) zero = rw (lt-leb (suc (length t)) 0 (omega arith))
starts_at m (c ∷ t) (suc k) = rw (leb-suc-suc (length t) k) (starts_at m t k)

-- the bytes d of the first field, and what stands behind them
unfoldable pub pass_from : (Text → Bool) → ℕ → Text → Text → Bool
pass_from p count d u = is_ended_at u && eqb (length (prepend d (fields_at u))) count && every p (prepend d (fields_at u))

module _ (p : Text → Bool) where
  -- none of them yet
  pub pass_from_lem : (count : ℕ) (t : Text) → fields_pass p count t ≡ pass_from p count [] t
  unfolding fields_pass pass_from
  pass_from_lem count t = rw (fields_some (line_at t))

  pub from_nil : (count : ℕ) (d : Text) → pass_from p count d [] ≡ false
  unfolding pass_from
  from_nil count d = rw ended_nil

  module _ (d w : Text) where
    pub from_comma : (k : ℕ) → pass_from p (suc (suc k)) d (comma ∷ w) ≡ (p d && fields_pass p (suc k) w)
    unfolding pass_from fields_pass every
    from_comma k =
        rw (ended_byte w comma (omega arith), line_byte w comma (omega arith), fields_comma (line_at w), append-nil d, eqb-suc-suc (length (fields_at w)) (suc k))
        (and_swap (is_ended_at w) (eqb (length (fields_at w)) (suc k)) (p d) (every p (fields_at w)))

    pub from_comma_one : pass_from p 1 d (comma ∷ w) ≡ false
    unfolding pass_from
    from_comma_one =
        rw (
          ended_byte w comma (omega arith),
          line_byte w comma (omega arith),
          fields_comma (line_at w),
          fields_some (line_at w),
          ne_eqb (suc (suc (length (tail (fields_at w))))) 1 (omega arith),
        )
        (and_middle (is_ended_at w) _)

    pub from_feed : (k : ℕ) → pass_from p (suc (suc k)) d (line_feed ∷ w) ≡ false
    unfolding pass_from
    from_feed k = rw (ended_feed w, line_feed_lem w, fields_nil, ne_eqb 1 (suc (suc k)) (omega arith))

    pub from_feed_one : pass_from p 1 d (line_feed ∷ w) ≡ p d
    unfolding pass_from every
    from_feed_one = rw (ended_feed w, line_feed_lem w, fields_nil, append-nil d) (and-true (p d))

    from_other : (count c : ℕ) → ((x : Text) → p (d ++ (c ∷ x)) ≡ false) → (c ≡ line_feed → ⊥) → (c ≡ comma → ⊥) → pass_from p count d (c ∷ w) ≡ false
    unfolding pass_from every ahead
    from_other count c none l q =
        rw (ended_byte w c l, line_byte w c l, fields_byte c (line_at w) q, fields_some (line_at w), none (head_d (fields_at w) []))
        (and-false (is_ended_at w && eqb (suc (length (tail (fields_at w)))) count))

  -- where no field that passes goes on behind d, the first of several fields is ended by a comma, the last by the line feed
  module _ (d : Text) where
    pub from_more : (k : ℕ) (u : Text) → ((x : Text) → p (d ++ (get_or u 0 0 ∷ x)) ≡ false)
        → pass_from p (suc (suc k)) d u ≡ (p d && (starts comma u && fields_pass p (suc k) (drop 1 u)))
    from_more k [] nonene = from_nil (suc (suc k)) d ∙ sym (and-false (p d))
    from_more k (c ∷ w) none = go (eqb c comma) (eqb c line_feed) refl refl
      where
        go : (x y : Bool) → eqb c comma ≡ x → eqb c line_feed ≡ y → pass_from p (suc (suc k)) d (c ∷ w) ≡ (p d && (x && fields_pass p (suc k) w))
        go true y e f = let q : c ≡ comma = eqb-true _ _ e in rw q (from_comma d w k)
        go false true e f = let q : c ≡ line_feed = eqb-true _ _ f in rw q (from_feed d w k ∙ sym (and-false (p d)))
        go false false e f = from_other d w (suc (suc k)) c none (eqb-false _ _ f) (eqb-false _ _ e) ∙ sym (and-false (p d))

    pub from_last : (u : Text) → ((x : Text) → p (d ++ (get_or u 0 0 ∷ x)) ≡ false) → pass_from p 1 d u ≡ (p d && starts line_feed u)
    from_last [] nonene = from_nil 1 d ∙ sym (and-false (p d))
    from_last (c ∷ w) none = go (eqb c comma) (eqb c line_feed) refl refl
      where
        go : (x y : Bool) → eqb c comma ≡ x → eqb c line_feed ≡ y → pass_from p 1 d (c ∷ w) ≡ (p d && y)
        go x true e f = let q : c ≡ line_feed = eqb-true _ _ f in rw q (from_feed_one d w ∙ sym (and-true (p d)))
        go true false e f = let q : c ≡ comma = eqb-true _ _ e in rw q (from_comma_one d w ∙ sym (and-false (p d)))
        go false false e f = from_other d w 1 c none (eqb-false _ _ f) (eqb-false _ _ e) ∙ sym (and-false (p d))
