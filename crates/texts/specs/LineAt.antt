-- The line at the start of a text: byte by byte, and as the first of its lines. Assumes nothing.
use Rattle.std.specs.Prelude.{◌≡◌, ℕ, suc, Bool, true, false, cond, length, take, eqb, ltb}
use Rattle.std.proofs.Math.Path.{refl}
use Rattle.std.proofs.Common.{arith}
use mathlib.Core.List.{List, [], ◌∷◌, head_d, tail}
use Rattle.std.proofs.Math.Dec.{leb-suc-suc}
use borrow.Author.Tests.{ne_eqb, lt-ltb}
use Rattle.csl.specs.Text.{Text}
use Rattle.csl.specs.Line.{line_feed, comma, ahead, parts, fields_of}
use Rattle.texts.specs.Span.{span_of}

-- the bytes before the first line feed
unfoldable pub line_at : Text → Text
line_at t = take (span_of line_feed t) t

-- there is a line feed
unfoldable pub is_ended_at : Text → Bool
is_ended_at t = ltb (span_of line_feed t) (length t)

-- the fields of that line
abbrev pub fields_at : Text → List Text
fields_at t = fields_of (line_at t)

module _ (t : Text) where
  pub line_feed_lem : line_at (line_feed ∷ t) ≡ []
  unfolding line_at span_of
  line_feed_lem = refl

  pub ended_feed : is_ended_at (line_feed ∷ t) ≡ true
  unfolding is_ended_at span_of
  ended_feed = lt-ltb 0 (suc (length t)) (omega arith)

  pub line_byte : (b : ℕ) → (b ≡ line_feed → ⊥) → line_at (b ∷ t) ≡ b ∷ line_at t
  unfolding line_at span_of
  line_byte b h = rw (ne_eqb b line_feed h)

  pub ended_byte : (b : ℕ) → (b ≡ line_feed → ⊥) → is_ended_at (b ∷ t) ≡ is_ended_at t
  unfolding is_ended_at span_of
  ended_byte b h = rw (ne_eqb b line_feed h) (leb-suc-suc (suc (span_of line_feed t)) (length t))

  pub span_byte : (b : ℕ) → (b ≡ line_feed → ⊥) → span_of line_feed (b ∷ t) ≡ suc (span_of line_feed t)
  unfolding span_of
  span_byte b h = rw (ne_eqb b line_feed h)

pub span_feed : (t : Text) → span_of line_feed (line_feed ∷ t) ≡ 0
unfolding span_of
span_feed t = refl

pub ended_nil : is_ended_at [] ≡ false
unfolding is_ended_at span_of
ended_nil = refl

-- the fields of a line that begins with a comma, and with another byte
pub fields_nil : fields_of [] ≡ [] ∷ []
unfolding fields_of parts
fields_nil = refl

pub fields_comma : (l : Text) → fields_of (comma ∷ l) ≡ [] ∷ fields_of l
unfolding fields_of parts
fields_comma l = refl

pub fields_byte : (b : ℕ) (l : Text) → (b ≡ comma → ⊥) → fields_of (b ∷ l) ≡ ahead b (fields_of l)
unfolding fields_of parts
fields_byte b l h = rw (ne_eqb b comma h)

-- a line has at least one field
pub fields_some : (l : Text) → fields_of l ≡ head_d (fields_of l) [] ∷ tail (fields_of l)
unfolding fields_of parts ahead head_d
fields_some [] = refl
fields_some (b ∷ l) = go (eqb b comma) (parts comma l)
  where
    go : (p : Bool) (ps : List Text) → cond p ([] ∷ ps) (ahead b ps) ≡ head_d (cond p ([] ∷ ps) (ahead b ps)) [] ∷ tail (cond p ([] ∷ ps) (ahead b ps))
    go true ps = refl
    go false [] = refl
    go false (x ∷ ps) = refl
