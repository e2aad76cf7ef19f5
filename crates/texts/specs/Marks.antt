-- Marks at the start of a text. Assumes nothing.
use Rattle.std.specs.Prelude.{◌≡◌, refl, ℕ, zero, suc, ◌+◌, ◌*◌, ◌-◌, ◌≤◌, ◌<◌, Bool, true, false, ◌&&◌, ◌||◌, length, get_or, eqb}
use Rattle.std.proofs.Common.{sym, ◌∙◌, arith, eqb-true}
use Rattle.std.proofs.Math.Path.{ap}
use Rattle.std.proofs.Math.Bool.{and-false, and-true, and_comm, and_assoc, and-eq-true_iff}
use Rattle.std.proofs.lemmas.Bool.{false≢true, eqb-false}
use mathlib.Core.List.{[], ◌∷◌}
use Rattle.std.proofs.Math.ListN.{drop}
use Rattle.csl.specs.Text.{Text, same}
use Rattle.csl.specs.Line.{line_feed, comma, ahead}
use Rattle.csl.specs.Labels.{is_mark}
use Rattle.texts.specs.Span.{span_of}
use Rattle.texts.specs.FieldsPass.{fields_pass, pass_from, starts, pass_from_lem, from_nil}
use Rattle.texts.specs.FieldsPass.{from_comma, from_comma_one, from_feed, from_feed_one, from_more, from_last}
use Rattle.texts.specs.LineAt.{line_at, fields_at, line_feed_lem, line_byte, ended_byte}
use Rattle.texts.specs.LineAt.{span_byte, span_feed, fields_nil, fields_comma, fields_byte, fields_some}

-- a 0 or 1, and the byte `end` after it
unfoldable pub mark_at : ℕ → Text → Bool
mark_at end [] = false
mark_at end (a ∷ []) = false
mark_at end (a ∷ b ∷ t) = eqb b end && (eqb a 48 || eqb a 49)

-- the line at the start is ended, and its fields are so many marks
abbrev pub marks_in : ℕ → Text → Bool
marks_in count t = fields_pass is_mark count t

-- a field of one byte, of none, of more
mark_one : (a : ℕ) → is_mark (a ∷ []) ≡ (eqb a 48 || eqb a 49)
unfolding is_mark same
mark_one a = rw (and-true (eqb a 48), and-true (eqb a 49))

mark_none : is_mark [] ≡ false
unfolding is_mark same
mark_none = refl

mark_long : (a b : ℕ) (p : Text) → is_mark (a ∷ b ∷ p) ≡ false
unfolding is_mark same
mark_long a b p = rw (and-false (eqb a 48), and-false (eqb a 49))

-- a mark is a field of one byte, and its end behind it
mark_ended : (end a : ℕ) (u : Text) → mark_at end (a ∷ u) ≡ (is_mark (a ∷ []) && starts end u)
unfolding mark_at
mark_ended end a [] = sym (and-false (is_mark (a ∷ [])))
mark_ended end a (b ∷ w) = rw (mark_one a) (and_comm (eqb b end) (eqb a 48 || eqb a 49))

-- the first byte ends no field
byte_first : (count a : ℕ) (u : Text) → (a ≡ line_feed → ⊥) → (a ≡ comma → ⊥) → marks_in count (a ∷ u) ≡ pass_from is_mark count (a ∷ []) u
unfolding fields_pass pass_from ahead
byte_first count a u p q = rw (ended_byte u a p, line_byte u a p, fields_byte a (line_at u) q, fields_some (line_at u))

-- all marks but the last are ended by a comma, the last by the line feed
marks_next : (k : ℕ) (t : Text) → marks_in (suc (suc k)) t ≡ (mark_at comma t && marks_in (suc k) (drop 2 t))
unfolding mark_at is_mark same
marks_next k [] = pass_from_lem is_mark (suc (suc k)) [] ∙ from_nil is_mark (suc (suc k)) []
marks_next k (a ∷ u) = rw (mark_ended comma a u) (go (eqb a line_feed) (eqb a comma) refl refl)
  where
    go : (x y : Bool) → eqb a line_feed ≡ x → eqb a comma ≡ y
        → marks_in (suc (suc k)) (a ∷ u) ≡ (is_mark (a ∷ []) && starts comma u && marks_in (suc k) (drop 1 u))
    go true y d e =
        let q : a ≡ line_feed = eqb-true _ _ d in
        rw q (pass_from_lem is_mark (suc (suc k)) (line_feed ∷ u) ∙ from_feed is_mark [] u k)
    go false true d e =
        let q : a ≡ comma = eqb-true _ _ e in
        rw q (pass_from_lem is_mark (suc (suc k)) (comma ∷ u) ∙ from_comma is_mark [] u k)
    go false false d e =
        byte_first (suc (suc k)) a u (eqb-false _ _ d) (eqb-false _ _ e)
        ∙ from_more is_mark (a ∷ []) k u (mark_long a (get_or u 0 0))
        ∙ sym (and_assoc (is_mark (a ∷ [])) (starts comma u) (marks_in (suc k) (drop 1 u)))

pub marks_more : (n : ℕ) (t : Text) → 1 < n → marks_in n t ≡ (mark_at comma t && marks_in (n - 1) (drop 2 t))
marks_more zero t h = absurd (omega arith)
marks_more (suc zero) t h = absurd (omega arith)
marks_more (suc (suc k)) t h = let e : suc (suc k) - 1 ≡ suc k = omega arith in rw e (marks_next k t)

pub marks_last : (t : Text) → marks_in 1 t ≡ mark_at line_feed t
unfolding mark_at is_mark same
marks_last [] = pass_from_lem is_mark 1 [] ∙ from_nil is_mark 1 []
marks_last (a ∷ u) = rw (mark_ended line_feed a u) (go (eqb a line_feed) (eqb a comma) refl refl)
  where
    go : (x y : Bool) → eqb a line_feed ≡ x → eqb a comma ≡ y → marks_in 1 (a ∷ u) ≡ (is_mark (a ∷ []) && starts line_feed u)
    go true y d e = let q : a ≡ line_feed = eqb-true _ _ d in rw q (pass_from_lem is_mark 1 (line_feed ∷ u) ∙ from_feed_one is_mark [] u)
    go false true d e = let q : a ≡ comma = eqb-true _ _ e in rw q (pass_from_lem is_mark 1 (comma ∷ u) ∙ from_comma_one is_mark [] u)
    go false false d e =
        byte_first 1 a u (eqb-false _ _ d) (eqb-false _ _ e) ∙ from_last is_mark (a ∷ []) u (mark_long a (get_or u 0 0))

-- the bytes of a mark that is there
pub mark_bytes : (end : ℕ) (t : Text) → mark_at end t ≡ true → 2 ≤ length t
unfolding mark_at
mark_bytes end [] h = absurd (false≢true h)
mark_bytes end (a ∷ []) h = absurd (false≢true h)
mark_bytes end (a ∷ b ∷ t) h = omega arith

-- a mark that is there
record There (end : ℕ) (t : Text) : Type 0 where
  stands : t ≡ get_or t 0 0 ∷ end ∷ drop 2 t
  no_feed : get_or t 0 0 ≡ line_feed → ⊥
  no_comma : get_or t 0 0 ≡ comma → ⊥

there : (end : ℕ) (t : Text) → mark_at end t ≡ true → There end t
unfolding mark_at
there end [] h = absurd (false≢true h)
there end (a ∷ []) h = absurd (false≢true h)
there end (a ∷ b ∷ t) h =
    let p = (and-eq-true_iff (eqb b end) (eqb a 48 || eqb a 49)).0 h in
    let q : b ≡ end = eqb-true b end p.0 in
    let r = range (eqb a 48) refl p.1 in
    record { stands = rw q; no_feed = λ e. omega arith; no_comma = λ e. omega arith }
  where
    range : (x : Bool) → eqb a 48 ≡ x → (x || eqb a 49) ≡ true → (48 ≤ a) × (a ≤ 49)
    range true e h = let r : a ≡ 48 = eqb-true a 48 e in (omega arith, omega arith)
    range false e h = let r : a ≡ 49 = eqb-true a 49 h in (omega arith, omega arith)

-- the bytes of the line, and its fields: behind a comma, and at the line feed
module _ (t : Text) where
  comma_there : There comma t → span_of line_feed t ≡ 2 + span_of line_feed (drop 2 t)
  comma_there h =
      ap (span_of line_feed) h.stands
      ∙ rw (span_byte (comma ∷ drop 2 t) (get_or t 0 0) h.no_feed, span_byte (drop 2 t) comma (omega arith)) (omega arith)

  feed_there : There line_feed t → span_of line_feed t ≡ 1
  feed_there h = ap (span_of line_feed) h.stands ∙ rw (span_byte (line_feed ∷ drop 2 t) (get_or t 0 0) h.no_feed, span_feed (drop 2 t))

  comma_parts : There comma t → fields_at t ≡ (get_or t 0 0 ∷ []) ∷ fields_at (drop 2 t)
  unfolding ahead
  comma_parts h =
      ap fields_at h.stands
      ∙ rw (
        line_byte (comma ∷ drop 2 t) (get_or t 0 0) h.no_feed,
        line_byte (drop 2 t) comma (omega arith),
        fields_byte (get_or t 0 0) (comma ∷ line_at (drop 2 t)) h.no_comma,
        fields_comma (line_at (drop 2 t)),
      )

  feed_parts : There line_feed t → fields_at t ≡ (get_or t 0 0 ∷ []) ∷ []
  unfolding ahead
  feed_parts h =
      ap fields_at h.stands
      ∙ rw (line_byte (line_feed ∷ drop 2 t) (get_or t 0 0) h.no_feed, line_feed_lem (drop 2 t), fields_byte (get_or t 0 0) [] h.no_comma, fields_nil)

marks_both : (k : ℕ) (t : Text) → marks_in (suc (suc k)) t ≡ true → (mark_at comma t ≡ true) × (marks_in (suc k) (drop 2 t) ≡ true)
marks_both k t h = (and-eq-true_iff (mark_at comma t) (marks_in (suc k) (drop 2 t))).0 (sym (marks_next k t) ∙ h)

pub marks_bytes : (k : ℕ) (t : Text) → marks_in (suc k) t ≡ true → span_of line_feed t + 1 ≡ 2 * suc k
marks_bytes zero t h = omega (arith, feed_there t (there line_feed t (sym (marks_last t) ∙ h)))
marks_bytes (suc k) t h =
    let p = marks_both k t h in
    omega (arith, comma_there t (there comma t p.0), marks_bytes k (drop 2 t) p.1)

-- the first of a line's marks, and the others
pub marks_first : (k : ℕ) (t : Text) → marks_in (suc (suc k)) t ≡ true
    → (fields_at t ≡ (get_or t 0 0 ∷ []) ∷ fields_at (drop 2 t)) × (marks_in (suc k) (drop 2 t) ≡ true)
marks_first k t h = let p = marks_both k t h in (comma_parts t (there comma t p.0), p.1)

pub marks_only : (t : Text) → marks_in 1 t ≡ true → fields_at t ≡ (get_or t 0 0 ∷ []) ∷ []
marks_only t h = feed_parts t (there line_feed t (sym (marks_last t) ∙ h))
