-- The state line at the start of a text, by its number and its marks. Assumes nothing.
use mathlib.Core.Path.{◌≡◌, refl, sym, ◌∙◌}
use Prim.Native.Nat.{ℕ, zero, suc, ◌+◌, ◌*◌, ◌-◌, ◌≤◌, ◌<◌}
use native.Mathlib.Omega.{arith}
use mathlib.Core.Bool.{Bool, true, false, cond, ◌&&◌, ◌||◌, and-false, and-eq-true_iff, false≢true, true≢false}
use mathlib.Core.List.{List, [], ◌∷◌, head_d, tail}
use lib.ListN.{length, take, drop}
use lib.Dec.{eqb, eqb-suc-suc}
use borrow.Author.Tests.{ne_eqb, eqb-true, ltb-true}
use Rattle.csl.specs.Text.{Text, same, every}
use Rattle.csl.specs.Limits.{sheet_digits}
use Rattle.csl.specs.Number.{is_number, zero_led, value_of}
use Rattle.csl.specs.Line.{line_feed, comma}
use Rattle.csl.specs.Labels.{is_mark, state_line}
use Rattle.texts.specs.Span.{span_of}
use Rattle.texts.specs.Cut.{rest_is}
use Rattle.std.specs.Prelude.{Option, Some, None}
use Rattle.texts.specs.declared.digits.Numeral.{Numeral}
use Rattle.texts.specs.Digits.{read, read_once}
use Rattle.texts.specs.LineAt.{line_at, is_ended_at, fields_at}
use Rattle.texts.specs.Field.{field_at}
use Rattle.texts.specs.FieldsPass.{fields_pass}
use Rattle.texts.specs.Marks.{marks_in, marks_bytes}
use Rattle.texts.specs.Numbers.{numbers_in, numbers_more, numbers_last, then_in, reading, comma_fields, comma_span, comma_ended, feed_fields, feed_span}
use Rattle.labels.specs.StateLine.{is_state_line_at, state_line_at, marks_behind, StateLineFits}

-- a mark is a number
mark_number : (f : Text) → is_mark f ≡ true → is_number sheet_digits f ≡ true
unfolding is_mark same is_number every zero_led
mark_number [] h = absurd (false≢true h)
mark_number (a ∷ []) h = go (eqb a 48) (eqb a 49) refl refl h
  where
    go : (x y : Bool) → eqb a 48 ≡ x → eqb a 49 ≡ y → (x && true || y && true) ≡ true → is_number sheet_digits (a ∷ []) ≡ true
    go true y e g q = let r : a ≡ 48 = eqb-true a 48 e in rw r
    go false true e g q = let r : a ≡ 49 = eqb-true a 49 g in rw r
    go false false e g q = absurd (false≢true q)
mark_number (a ∷ b ∷ f) h = absurd (false≢true (sym (rw (and-false (eqb a 48), and-false (eqb a 49))) ∙ h))

marks_numbers : (fs : List Text) → every is_mark fs ≡ true → every (is_number sheet_digits) fs ≡ true
unfolding every
marks_numbers [] h = refl
marks_numbers (f ∷ fs) h =
    let p = (and-eq-true_iff (is_mark f) (every is_mark fs)).0 h in
    rw (mark_number f p.0, marks_numbers fs p.1)

-- a line of no marks is a line of one number
alone : (fs : List Text)
    → (eqb (length fs) 1 && is_number sheet_digits (head_d fs []) && every is_mark (tail fs)) ≡ (eqb (length fs) 1 && every (is_number sheet_digits) fs)
unfolding every head_d
alone [] = refl
alone (f ∷ []) = refl
alone (f ∷ g ∷ fs) = rw (ne_eqb (suc (suc (length fs))) 1 (omega arith))

row_alone : (t : Text) → is_state_line_at 0 t ≡ numbers_in 1 t
unfolding is_state_line_at state_line fields_pass
row_alone t = rw (alone (fields_at t)) (group (is_ended_at t) (eqb (length (fields_at t)) 1) (every (is_number sheet_digits) (fields_at t)))
  where
    group : (x y z : Bool) → (x && (y && z)) ≡ (x && y && z)
    group true y z = refl
    group false y z = refl

row_numbers : (k : ℕ) (t : Text) → is_state_line_at k t ≡ true → numbers_in (suc k) t ≡ true
unfolding is_state_line_at state_line fields_pass every head_d
row_numbers k t h =
    let p = (and-eq-true_iff (is_ended_at t) (eqb (length (fields_at t)) (suc k) && is_number sheet_digits (head_d (fields_at t) []) && every is_mark (tail (fields_at t)))).0 h in
    let q = (and-eq-true_iff (eqb (length (fields_at t)) (suc k) && is_number sheet_digits (head_d (fields_at t) [])) (every is_mark (tail (fields_at t)))).0 p.1 in
    let r = (and-eq-true_iff (eqb (length (fields_at t)) (suc k)) (is_number sheet_digits (head_d (fields_at t) []))).0 q.0 in
    rw (p.0, r.0) (all (fields_at t) (eqb-true _ _ r.0) r.1 (marks_numbers (tail (fields_at t)) q.1))
  where
    all : (fs : List Text) → length fs ≡ suc k → is_number sheet_digits (head_d fs []) ≡ true → every (is_number sheet_digits) (tail fs) ≡ true
        → every (is_number sheet_digits) fs ≡ true
    all [] e g m = refl
    all (f ∷ fs) e g m = rw (g, m)

module _ (t : Text) where
  pub row_bad : (k : ℕ) → field_at comma t ≡ None → state_line_at (suc k) t ≡ None
  unfolding state_line_at
  row_bad k e = go (is_state_line_at (suc k) t) refl
    where
      go : (x : Bool) → is_state_line_at (suc k) t ≡ x → cond x (read (value_of (head_d (fields_at t) [])) (span_of line_feed t + 1)) None ≡ None
      go true h = absurd (true≢false (sym (row_numbers (suc k) t h) ∙ numbers_more k t ∙ rw e))
      go false h = refl

  pub row_lone : state_line_at 0 t ≡ field_at line_feed t
  unfolding state_line_at head_d
  row_lone = rw (row_alone t, numbers_last t) (go (field_at line_feed t) refl)
    where
      go : (r : Option Numeral) → field_at line_feed t ≡ r
          → cond (then_in (λ w. true) t r) (read (value_of (head_d (fields_at t) [])) (span_of line_feed t + 1)) None ≡ r
      go None e = refl
      go (Some n) e =
          let r = reading line_feed t n.value n.used e in
          rw (feed_fields t n.value n.used r, r.value, feed_span t n.value n.used r)

  module _ (v u : ℕ) (e : field_at comma t ≡ read v u) where
    row_marks : (k : ℕ) → is_state_line_at (suc k) t ≡ marks_in (suc k) (drop u t)
    unfolding is_state_line_at state_line fields_pass head_d
    row_marks k =
        let r = reading comma t v u e in
        rw (comma_ended t v u r, comma_fields t v u r, r.number, eqb-suc-suc (length (fields_at (drop u t))) (suc k))
        (group (is_ended_at (drop u t)) (eqb (length (fields_at (drop u t))) (suc k)) (every is_mark (fields_at (drop u t))))
      where
        group : (x y z : Bool) → (x && (y && true && z)) ≡ (x && y && z)
        group true true z = refl
        group true false z = refl
        group false y z = refl

    pub row_rest : (k : ℕ) → marks_behind v u (suc k) t ≡ state_line_at (suc k) t
    unfolding state_line_at head_d
    row_rest k = rw (row_marks k) (go (marks_in (suc k) (drop u t)) refl)
      where
        go : (x : Bool) → marks_in (suc k) (drop u t) ≡ x
            → cond x (read v (u + 2 * suc k)) None ≡ cond x (read (value_of (head_d (fields_at t) [])) (span_of line_feed t + 1)) None
        go true h =
            let r = reading comma t v u e in
            let b : span_of line_feed t + 1 ≡ u + 2 * suc k = omega (arith, comma_span t v u r, marks_bytes k (drop u t) h) in
            rw (comma_fields t v u r, r.value, b)
        go false h = refl

-- the bytes of a row
fits_row : (names : ℕ) (t : Text) → is_state_line_at names t ≡ true → 2 * names + 1 ≤ span_of line_feed t + 1
fits_row zero t h = omega arith
fits_row (suc k) t h = go (field_at comma t) refl
  where
    go : (r : Option Numeral) → field_at comma t ≡ r → 2 * suc k + 1 ≤ span_of line_feed t + 1
    go None e = absurd (true≢false (sym (row_numbers (suc k) t h) ∙ numbers_more k t ∙ rw e))
    go (Some n) e =
        let r = reading comma t n.value n.used e in
        omega (arith, r.used, comma_span t n.value n.used r, marks_bytes k (drop n.used t) (sym (row_marks t n.value n.used e k) ∙ h))

pub row_fits : (names : ℕ) (t : Text) → StateLineFits names (length t) (state_line_at names t)
unfolding state_line_at is_state_line_at is_ended_at
row_fits names t = go (is_state_line_at names t) refl
  where
    go : (x : Bool) → is_state_line_at names t ≡ x
        → StateLineFits names (length t) (cond x (read (value_of (head_d (fields_at t) [])) (span_of line_feed t + 1)) None)
    go true h =
        let p : span_of line_feed t < length t = ltb-true _ _ ((and-eq-true_iff (is_ended_at t) (state_line (suc names) (line_at t))).0 h).0 in
        (fits_row names t h, omega arith)
    go false h = omega arith

-- by the number of names and by the answers that the code has: of the number, and of the marks behind it
module _ (names : ℕ) (t : Text) where
  pub row_zero : {r : Option Numeral} → names ≡ 0 → r ≡ field_at line_feed t → r ≡ state_line_at names t
  row_zero e f = f ∙ rw e (sym (row_lone t))

  module _ {r : Option Numeral} (h : names ≡ 0 → ⊥) (f : r ≡ field_at comma t) where
    pub row_none : r ≡ None → None ≡ state_line_at names t
    row_none e = go names h
      where
        go : (n : ℕ) → (n ≡ 0 → ⊥) → None ≡ state_line_at n t
        go zero g = absurd (g refl)
        go (suc k) g = sym (row_bad t k (sym f ∙ e))

    module _ {n : Numeral} (e : r ≡ Some n) where
      row_some : marks_behind n.value n.used names t ≡ state_line_at names t
      row_some = go names h
        where
          go : (m : ℕ) → (m ≡ 0 → ⊥) → marks_behind n.value n.used m t ≡ state_line_at m t
          go zero g = absurd (g refl)
          go (suc k) g = row_rest t n.value n.used (sym f ∙ e) k

      module _ {m : Option ℕ} (q : m ≡ cond (marks_in names (take (length t - n.used) (drop n.used t))) (Some (2 * names)) None) where
        pub row_unmarked : m ≡ None → None ≡ state_line_at names t
        row_unmarked g = go (marks_in names (drop n.used t)) (sym g ∙ rw rest_is at q) ∙ row_some
          where
            go : (x : Bool) → None ≡ cond x (Some (2 * names)) None → None ≡ cond x (read n.value (n.used + 2 * names)) None
            go true p = let z : ◌≡◌ {A = ℕ} 0 1 = cc in absurd (omega arith)
            go false p = refl

        pub row_marked : {k : ℕ} → m ≡ Some k → read n.value (n.used + k) ≡ state_line_at names t
        row_marked {k} g = go (marks_in names (drop n.used t)) (sym g ∙ rw rest_is at q) ∙ row_some
          where
            go : (x : Bool) → Some k ≡ cond x (Some (2 * names)) None → read n.value (n.used + k) ≡ cond x (read n.value (n.used + 2 * names)) None
            go true p = let w : k ≡ 2 * names = cc in rw w
            go false p = let z : ◌≡◌ {A = ℕ} 0 1 = cc in absurd (omega arith)

pub ruleset row_laws = (row_zero, row_none, row_unmarked, row_marked)

-- the marks of a row that was read
pub row_bare : (t : Text) (v u : ℕ) → state_line_at 0 t ≡ read v u → tail (fields_at t) ≡ []
row_bare t v u h = rw (feed_fields t v u (reading line_feed t v u (sym (row_lone t) ∙ h)))

pub row_tail : (k : ℕ) (t : Text) (v u : ℕ) → state_line_at (suc k) t ≡ read v u
    → (marks_in (suc k) (drop (u - 2 * suc k) t) ≡ true) × (fields_at (drop (u - 2 * suc k) t) ≡ tail (fields_at t))
row_tail k t v u h = go (field_at comma t) refl
  where
    no : ◌≡◌ {A = Option Numeral} None (read v u) → (marks_in (suc k) (drop (u - 2 * suc k) t) ≡ true) × (fields_at (drop (u - 2 * suc k) t) ≡ tail (fields_at t))
    no q = let z : ◌≡◌ {A = ℕ} 0 1 = cc in absurd (omega arith)

    go : (r : Option Numeral) → field_at comma t ≡ r → (marks_in (suc k) (drop (u - 2 * suc k) t) ≡ true) × (fields_at (drop (u - 2 * suc k) t) ≡ tail (fields_at t))
    go None e = no (sym (row_bad t k e) ∙ h)
    go (Some n) e = marked (marks_in (suc k) (drop n.used t)) refl (row_rest t n.value n.used e k ∙ h)
      where
        marked : (x : Bool) → marks_in (suc k) (drop n.used t) ≡ x → cond x (read n.value (n.used + 2 * suc k)) None ≡ read v u
            → (marks_in (suc k) (drop (u - 2 * suc k) t) ≡ true) × (fields_at (drop (u - 2 * suc k) t) ≡ tail (fields_at t))
        marked true m q =
            let d : u - 2 * suc k ≡ n.used = omega (arith, (read_once q).1) in
            rw d (m, rw (comma_fields t n.value n.used (reading comma t n.value n.used e)))
        marked false m q = no q
