-- Marks by the bytes that are read, and a field by its number and the byte behind it. Assumes nothing.
use mathlib.Core.Path.{◌≡◌, refl, sym, ◌∙◌}
use Prim.Native.Nat.{ℕ, ◌+◌, ◌-◌, ◌≤◌, ◌<◌}
use native.Mathlib.Omega.{arith}
use mathlib.Core.Bool.{true, false, ◌&&◌, ◌||◌}
use mathlib.Core.List.{[], ◌∷◌}
use lib.ListN.{length, get_or, drop}
use lib.Dec.{eqb}
use borrow.Author.Tests.{eq-eqb, ne_eqb, le-leb, lt-leb}
use Rattle.csl.specs.Text.{Text}
use Rattle.csl.specs.Limits.{sheet_digits}
use Rattle.csl.specs.Line.{comma, line_feed}
use Rattle.texts.specs.Digits.{number_at, NumberFits, read}
use Rattle.texts.specs.declared.digits.Numeral.{Numeral}
use Rattle.std.specs.Prelude.{Option, None}
use Rattle.texts.specs.Field.{field_at, FieldFits}
use Rattle.texts.specs.Numbers.{reading_below}
use Rattle.texts.specs.Marks.{mark_at, marks_in, marks_more, marks_last}

module _ (end : ℕ) where
  pub mark_short : (t : Text) → length t < 2 → mark_at end t ≡ false
  unfolding mark_at
  mark_short [] h = refl
  mark_short (a ∷ []) h = refl
  mark_short (a ∷ b ∷ t) h = absurd (omega arith)

  pub mark_two : (t : Text) → 2 ≤ length t → mark_at end t ≡ (eqb (get_or t 1 0) end && (eqb (get_or t 0 0) 48 || eqb (get_or t 0 0) 49))
  unfolding mark_at
  mark_two [] l = absurd (omega arith)
  mark_two (a ∷ []) l = absurd (omega arith)
  mark_two (a ∷ b ∷ t) l = refl

-- a number, as it was read, and the byte behind it
module _ (end : ℕ) (t : Text) {r : Option Numeral} (g : r ≡ number_at sheet_digits t) where
  pub field_bad : r ≡ None → None ≡ field_at end t
  unfolding field_at
  field_bad h = rw (← g, h)

  module _ {v n : ℕ} (h : r ≡ read v n) where
    pub field_open : length t ≤ n → None ≡ field_at end t
    unfolding field_at
    field_open l = rw (← g, h, le-leb (length t) n l)

    pub field_read : n < length t → get_or t n 0 ≡ end → read v (n + 1) ≡ field_at end t
    unfolding field_at
    field_read l k = rw (← g, h, lt-leb (length t) n l, eq-eqb (get_or t n 0) end k)

    pub field_other : n < length t → (get_or t n 0 ≡ end → ⊥) → None ≡ field_at end t
    unfolding field_at
    field_other l k = rw (← g, h, lt-leb (length t) n l, ne_eqb (get_or t n 0) end k)

pub field_fits : (t : Text) {r : Option Numeral} {v n : ℕ} → r ≡ number_at sheet_digits t → NumberFits (length t) r → r ≡ read v n → n < length t
    → FieldFits (length t) (read v (n + 1))
field_fits t {v = v} {n = n} g f h l =
    let k = rw h at f in
    (reading_below t v n (sym g ∙ h), omega arith, omega arith)

pub ruleset field_laws = (field_bad, field_open, field_read, field_other, field_fits)

-- one mark more, and the last
module _ (count n : ℕ) (s t : Text) (i : marks_in count s ≡ marks_in n t) where
  pub marks_no : 1 < n → mark_at comma t ≡ false → marks_in count s ≡ false
  marks_no l h = i ∙ marks_more n t l ∙ rw h

  pub marks_yes : 1 < n → mark_at comma t ≡ true → marks_in count s ≡ marks_in (n - 1) (drop 2 t)
  marks_yes l h = i ∙ marks_more n t l ∙ rw h

  pub marks_end : n ≡ 1 → marks_in count s ≡ mark_at line_feed t
  marks_end e = i ∙ rw e (marks_last t)
