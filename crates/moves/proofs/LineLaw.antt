-- The move line at the start of a text, by its three fields. Assumes nothing.
use mathlib.Core.Path.{◌≡◌, sym, ◌∙◌}
use Prim.Native.Nat.{ℕ, ◌+◌, ◌-◌, ◌^◌, ◌≤◌, ◌<◌}
use native.Mathlib.Omega.{arith}
use mathlib.Core.Bool.{true, false, ◌&&◌, and_assoc}
use mathlib.Core.List.{[], ◌∷◌}
use lib.ListN.{length, take, drop, length-drop}
use mir.Val.{Fits}
use mir.Syntax.{w64}
use lib.Dec.{eqb}
use Rattle.csl.specs.Text.{Text, every}
use Rattle.csl.specs.Limits.{sheet_digits}
use Rattle.csl.specs.Number.{is_number}
use Rattle.csl.specs.Line.{line_feed, comma}
use Rattle.csl.specs.Moves.{move_line, move_of, field_value}
use Rattle.texts.specs.Digits.{digit_run}
use Rattle.texts.specs.Span.{span_of}
use Rattle.texts.specs.Cut.{rest_is}
use Rattle.std.specs.Prelude.{Option, Some, None}
use Rattle.texts.specs.declared.digits.Numeral.{Numeral}
use Rattle.texts.specs.Digits.{read}
use Rattle.texts.specs.LineAt.{line_at, is_ended_at, fields_at}
use Rattle.texts.specs.Field.{field_at, FieldFits}
use Rattle.texts.specs.FieldsPass.{fields_pass}
use Rattle.texts.specs.Numbers.{numbers_in, numbers_more, numbers_last, Reading, reading, comma_fields, comma_span, feed_fields, feed_span}
use Rattle.moves.specs.Line.{move_at, line_of, LineFits}

-- an ended line of three numbers
pub line_test : (t : Text) → (is_ended_at t && move_line (line_at t)) ≡ numbers_in 3 t
unfolding move_line fields_pass
line_test t = sym (and_assoc (is_ended_at t) (eqb (length (fields_at t)) 3) (every (is_number sheet_digits) (fields_at t)))

line_bad : (t : Text) → numbers_in 3 t ≡ false → move_at t ≡ None
unfolding move_at
line_bad t h = rw (line_test t, h)

-- its three fields, as they are read
pub record Fields (t : Text) (f a o b r c : ℕ) : Type 0 where
  pub first : Reading comma t f a
  pub second : Reading comma (drop a t) o b
  pub third : Reading line_feed (drop b (drop a t)) r c

module _ {t : Text} {f a o b r c : ℕ} (x : Fields t f a o b r c) where
  their_fields : fields_at t ≡ digit_run t ∷ digit_run (drop a t) ∷ digit_run (drop b (drop a t)) ∷ []
  their_fields =
      comma_fields t f a x.first ∙ rw (comma_fields (drop a t) o b x.second, feed_fields (drop b (drop a t)) r c x.third)

  pub their_move : move_of (line_at t) ≡ record { from = f; to = o; rate = r }
  unfolding move_of field_value
  their_move = rw (their_fields, x.first.value, x.second.value, x.third.value)

  pub their_bytes : span_of line_feed t + 1 ≡ a + b + c
  their_bytes = omega (arith, comma_span t f a x.first, comma_span (drop a t) o b x.second, feed_span (drop b (drop a t)) r c x.third)

module _ (t : Text) where
  bad_first : field_at comma t ≡ None → move_at t ≡ None
  bad_first e = line_bad t (numbers_more 1 t ∙ rw e)

  module _ (f a : ℕ) (e₁ : field_at comma t ≡ read f a) where
    bad_second : field_at comma (drop a t) ≡ None → move_at t ≡ None
    bad_second e = line_bad t (numbers_more 1 t ∙ rw e₁ (numbers_more 0 (drop a t) ∙ rw e))

    module _ (o b : ℕ) (e₂ : field_at comma (drop a t) ≡ read o b) where
      bad_third : field_at line_feed (drop b (drop a t)) ≡ None → move_at t ≡ None
      bad_third e = line_bad t (numbers_more 1 t ∙ rw e₁ (numbers_more 0 (drop a t) ∙ rw e₂ (numbers_last (drop b (drop a t)) ∙ rw e)))

      module _ (r c : ℕ) (e₃ : field_at line_feed (drop b (drop a t)) ≡ read r c) where
        three : numbers_in 3 t ≡ true
        three = numbers_more 1 t ∙ rw e₁ (numbers_more 0 (drop a t) ∙ rw e₂ (numbers_last (drop b (drop a t)) ∙ rw e₃))

        their : Fields t f a o b r c
        their =
            record {
              first = reading comma t f a e₁;
              second = reading comma (drop a t) o b e₂;
              third = reading line_feed (drop b (drop a t)) r c e₃;
            }

        line_read : move_at t ≡ line_of (record { from = f; to = o; rate = r }) (a + b + c)
        unfolding move_at
        line_read = rw (line_test t, three, their_move their, their_bytes their)

-- what a part of a text holds
abbrev pub rest : Text → ℕ → Text
rest t a = take (length t - a) (drop a t)

-- the bytes of a field that was read
pub field_ends : {r : Option Numeral} {n : Numeral} → r ≡ Some n → (size : ℕ) → FieldFits size r → n.used ≤ size
field_ends h size f = let k = rw h at f in omega arith

-- by the answers that the code has: each field is read from the rest behind the one before it
module _ (t : Text) {r₁ : Option Numeral} (g₁ : r₁ ≡ field_at comma t) where
  pub first_bad : r₁ ≡ None → None ≡ move_at t
  first_bad h = sym (bad_first t (sym g₁ ∙ h))

  module _ {n₁ : Numeral} (h₁ : r₁ ≡ Some n₁) {r₂ : Option Numeral} (g₂ : r₂ ≡ field_at comma (rest t n₁.used)) where
    pub second_bad : r₂ ≡ None → None ≡ move_at t
    second_bad h = sym (bad_second t n₁.value n₁.used (sym g₁ ∙ h₁) (sym (rw rest_is at g₂) ∙ h))

    module _ {n₂ : Numeral} (h₂ : r₂ ≡ Some n₂) {r₃ : Option Numeral} (g₃ : r₃ ≡ field_at line_feed (rest (rest t n₁.used) n₂.used)) where
      pub third_bad : r₃ ≡ None → None ≡ move_at t
      third_bad h =
          sym (bad_third t n₁.value n₁.used (sym g₁ ∙ h₁) n₂.value n₂.used (sym (rw rest_is at g₂) ∙ h₂) (sym (rw (rest_is, rest_is) at g₃) ∙ h))

      module _ {n₃ : Numeral} (h₃ : r₃ ≡ Some n₃) where
        pub all_read : line_of (record { from = n₁.value; to = n₂.value; rate = n₃.value }) (n₁.used + n₂.used + n₃.used) ≡ move_at t
        all_read =
            sym (
            line_read t n₁.value n₁.used (sym g₁ ∙ h₁) n₂.value n₂.used (sym (rw rest_is at g₂) ∙ h₂) n₃.value n₃.used
            (sym (rw (rest_is, rest_is) at g₃) ∙ h₃)
            )

-- and their bytes together
module _ (t : Text) {r₁ r₂ : Option Numeral} {n₁ n₂ : Numeral} (h₁ : r₁ ≡ Some n₁) (f₁ : FieldFits (length t) r₁) (h₂ : r₂ ≡ Some n₂)
    (f₂ : FieldFits (length (rest t n₁.used)) r₂) where
  two_end : n₁.used + n₂.used ≤ length t
  two_end =
      let k₁ = rw h₁ at f₁ in
      let k₂ = rw (rest_is, h₂) at f₂ in
      omega (arith, length-drop n₁.used t)

  pub two_fit : length t < 2 ^ 64 → Fits w64 (n₁.used + n₂.used)
  two_fit l = omega (arith, two_end)

  module _ {r₃ : Option Numeral} {n₃ : Numeral} (h₃ : r₃ ≡ Some n₃) (f₃ : FieldFits (length (rest (rest t n₁.used) n₂.used)) r₃) where
    pub read_fits : LineFits (length t) (line_of (record { from = n₁.value; to = n₂.value; rate = n₃.value }) (n₁.used + n₂.used + n₃.used))
    read_fits =
        let k₁ = rw h₁ at f₁ in
        let k₂ = rw (rest_is, h₂) at f₂ in
        let k₃ = rw (rest_is, rest_is, h₃) at f₃ in
        let l : n₁.used + n₂.used + n₃.used ≤ length t = omega (arith, length-drop n₁.used t, length-drop n₂.used (drop n₁.used t)) in
        (k₁.0, k₂.0, k₃.0, omega arith, l)

    pub three_fit : length t < 2 ^ 64 → Fits w64 (n₁.used + n₂.used + n₃.used)
    three_fit l = omega (arith, read_fits.4)

pub ruleset line_laws = (field_ends, first_bad, second_bad, third_bad, all_read, two_fit, three_fit, read_fits)
