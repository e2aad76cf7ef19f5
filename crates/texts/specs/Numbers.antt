-- The numbers of the line at the start of a text, field by field. Assumes nothing.
use Rattle.std.specs.Prelude.{◌≡◌, refl, ℕ, suc, ◌+◌, ◌*◌, ◌-◌, ◌^◌, ◌≤◌, ◌<◌, Bool, true, false, cond, not, ◌&&◌, List, [], ◌∷◌, ◌++◌, length, drop, get_or, eqb, leb, Option, Some, None}
use Rattle.std.proofs.Common.{sym, ap, ◌∙◌, arith, pow-suc, mul-le-mul_right, append-nil, drop-drop, leb-true, leb-false, eqb-true}
use Rattle.std.proofs.Math.Nat.{pow-le-pow_right}
use Rattle.std.proofs.Math.Bool.{and-false, and-true, and-eq-true_iff}
use Rattle.std.proofs.lemmas.Bool.{false≢true}
use Rattle.csl.specs.Text.{Text, every}
use Rattle.csl.specs.Limits.{sheet_digits}
use Rattle.csl.specs.Number.{is_digit, is_number, zero_led, value_from, value_of}
use Rattle.csl.specs.Line.{line_feed, comma, ahead}
use Rattle.texts.specs.Digits.{digit_run, number_at, read, read_once}
use Rattle.texts.specs.Counting.{digit_range}
use Rattle.texts.specs.Span.{span_of}
use Rattle.texts.specs.declared.digits.Numeral.{Numeral}
use Rattle.texts.specs.LineAt.{line_at, is_ended_at, fields_at, line_feed_lem, line_byte}
use Rattle.texts.specs.LineAt.{ended_byte, span_byte, span_feed, fields_nil, fields_comma, fields_byte}
use Rattle.texts.specs.FieldsPass.{fields_pass, pass_from, prepend, prepend_nothing, starts, starts_at, from_more, from_last}
use Rattle.texts.specs.Field.{field_at, ended_by, HasDigits}

-- the line at the start is ended, and its fields are so many numbers
abbrev pub numbers_in : ℕ → Text → Bool
numbers_in count t = fields_pass (is_number sheet_digits) count t

-- the bytes behind the digits at the start
abbrev pub behind : Text → Text
behind t = drop (length (digit_run t)) t

run_fields : (t : Text) → fields_at t ≡ prepend (digit_run t) (fields_at (behind t))
unfolding digit_run ahead
run_fields [] = prepend_nothing (line_at [])
run_fields (b ∷ t) = go (is_digit b) refl (run_fields t)
  where
    onto : (x : List Text) → ahead b (prepend (digit_run t) x) ≡ prepend (b ∷ digit_run t) x
    onto [] = refl
    onto (p ∷ ps) = refl

    go : (p : Bool) → is_digit b ≡ p → fields_at t ≡ prepend (digit_run t) (fields_at (behind t))
        → fields_at (b ∷ t) ≡ prepend (cond p (b ∷ digit_run t) []) (fields_at (drop (length (cond p (b ∷ digit_run t) [])) (b ∷ t)))
    go true e ih =
        let r = digit_range b e in
        rw (line_byte t b (omega arith), fields_byte b (line_at t) (omega arith), ih) (onto (fields_at (behind t)))
    go false e ih = prepend_nothing (line_at (b ∷ t))

run_ended : (t : Text) → is_ended_at t ≡ is_ended_at (behind t)
unfolding digit_run
run_ended [] = refl
run_ended (b ∷ t) = go (is_digit b) refl (run_ended t)
  where
    go : (p : Bool) → is_digit b ≡ p → is_ended_at t ≡ is_ended_at (behind t)
        → is_ended_at (b ∷ t) ≡ is_ended_at (drop (length (cond p (b ∷ digit_run t) [])) (b ∷ t))
    go true e ih = let r = digit_range b e in ended_byte t b (omega arith) ∙ ih
    go false e ih = refl

run_span : (t : Text) → span_of line_feed t ≡ length (digit_run t) + span_of line_feed (behind t)
unfolding digit_run
run_span [] = omega arith
run_span (b ∷ t) = go (is_digit b) refl (run_span t)
  where
    go : (p : Bool) → is_digit b ≡ p → span_of line_feed t ≡ length (digit_run t) + span_of line_feed (behind t)
        → span_of line_feed (b ∷ t) ≡ length (cond p (b ∷ digit_run t) []) + span_of line_feed (drop (length (cond p (b ∷ digit_run t) [])) (b ∷ t))
    go true e ih = let r = digit_range b e in rw (span_byte t b (omega arith)) (omega arith)
    go false e ih = omega arith

-- no digit stands there
run_stops : (t : Text) → is_digit (get_or (behind t) 0 0) ≡ false
unfolding digit_run
run_stops [] = refl
run_stops (b ∷ t) = go (is_digit b) refl (run_stops t)
  where
    go : (p : Bool) → is_digit b ≡ p → is_digit (get_or (behind t) 0 0) ≡ false
        → is_digit (get_or (drop (length (cond p (b ∷ digit_run t) [])) (b ∷ t)) 0 0) ≡ false
    go true e ih = ih
    go false e ih = e

-- a text of digits and another byte is no number
other_byte : (d : Text) (c : ℕ) (p : Text) → is_digit c ≡ false → every is_digit (d ++ (c ∷ p)) ≡ false
unfolding every
other_byte [] c p h = rw h
other_byte (b ∷ d) c p h = rw (other_byte d c p h) (and-false (is_digit b))

no_number : (most : ℕ) (d : Text) (c : ℕ) (p : Text) → is_digit c ≡ false → is_number most (d ++ (c ∷ p)) ≡ false
unfolding is_number
no_number most d c p h = rw (other_byte d c p h)

-- no number goes on behind the digits
no_more : (t x : Text) → is_number sheet_digits (digit_run t ++ (get_or (behind t) 0 0 ∷ x)) ≡ false
no_more t x = no_number sheet_digits (digit_run t) (get_or (behind t) 0 0) x (run_stops t)

numbers_behind : (count : ℕ) (t : Text) → numbers_in count t ≡ pass_from (is_number sheet_digits) count (digit_run t) (behind t)
unfolding fields_pass pass_from
numbers_behind count t = rw (run_ended t, run_fields t)

-- what a field's reading says of the rest
abbrev pub then_in : (Text → Bool) → Text → Option Numeral → Bool
then_in p t None = false
then_in p t (Some r) = p (drop r.used t)

then_is : (end : ℕ) (p : Text → Bool) (t : Text)
    → is_number sheet_digits (digit_run t) && (starts end (behind t) && p (drop 1 (behind t))) ≡ then_in p t (field_at end t)
unfolding field_at number_at
then_is end p t =
    rw (starts_at end t (length (digit_run t)), drop-drop 1 (length (digit_run t)) t)
    (go (is_number sheet_digits (digit_run t)) (leb (length t) (length (digit_run t))) (eqb (get_or t (length (digit_run t)) 0) end) refl refl)
  where
    go : (x y z : Bool) → leb (length t) (length (digit_run t)) ≡ y → eqb (get_or t (length (digit_run t)) 0) end ≡ z
        → x && (cond y false z && p (drop (length (digit_run t) + 1) t))
        ≡ then_in p t (ended_by end t (cond x (read (value_of (digit_run t)) (length (digit_run t))) None))
    go true true z e f = rw e
    go true false true e f = rw (e, f)
    go true false false e f = rw (e, f)
    go false y z e f = refl

pub numbers_more : (k : ℕ) (t : Text) → numbers_in (suc (suc k)) t ≡ then_in (numbers_in (suc k)) t (field_at comma t)
numbers_more k t =
    numbers_behind (suc (suc k)) t ∙ from_more (is_number sheet_digits) (digit_run t) k (behind t) (no_more t) ∙ then_is comma (numbers_in (suc k)) t

pub numbers_last : (t : Text) → numbers_in 1 t ≡ then_in (λ w. true) t (field_at line_feed t)
numbers_last t =
    numbers_behind 1 t ∙ from_last (is_number sheet_digits) (digit_run t) (behind t) (no_more t)
    ∙ ap (λ x. is_number sheet_digits (digit_run t) && x) (sym (and-true (starts line_feed (behind t)))) ∙ then_is line_feed (λ w. true) t

-- what a field that was read says: its digits, their value, and where they end
pub record Reading (end : ℕ) (t : Text) (v u : ℕ) : Type 0 where
  pub number : is_number sheet_digits (digit_run t) ≡ true
  pub value : value_of (digit_run t) ≡ v
  pub used : length (digit_run t) + 1 ≡ u
  pub within : u ≤ length t
  pub end_there : starts end (behind t) ≡ true

pub reading : (end : ℕ) (t : Text) (v u : ℕ) → field_at end t ≡ read v u → Reading end t v u
unfolding field_at number_at
reading end t v u h = go (is_number sheet_digits (digit_run t)) (leb (length t) (length (digit_run t))) (eqb (get_or t (length (digit_run t)) 0) end) refl refl refl h
  where
    no : ◌≡◌ {A = Option Numeral} None (read v u) → Reading end t v u
    no q = let z : ◌≡◌ {A = ℕ} 0 1 = cc in absurd (omega arith)

    go : (x y z : Bool) → is_number sheet_digits (digit_run t) ≡ x → leb (length t) (length (digit_run t)) ≡ y
        → eqb (get_or t (length (digit_run t)) 0) end ≡ z
        → ended_by end t (cond x (read (value_of (digit_run t)) (length (digit_run t))) None) ≡ read v u → Reading end t v u
    go true true z d e f q = no (rw e at q)
    go true false true d e f q =
        let r : read (value_of (digit_run t)) (length (digit_run t) + 1) ≡ read v u = rw (e, f) at q in
        let l : length (digit_run t) < length t = leb-false _ _ e in
        let w = read_once r in
        record { number = d; value = w.0; used = w.1; within = omega arith; end_there = rw (starts_at end t (length (digit_run t)), e, f) }
    go true false false d e f q = no (rw (e, f) at q)
    go false y z d e f q = no q

starts_is : (m : ℕ) (w : Text) → starts m w ≡ true → w ≡ m ∷ drop 1 w
starts_is m [] h = absurd (false≢true h)
starts_is m (c ∷ w) h = let e : c ≡ m = eqb-true c m h in rw e

module _ (end : ℕ) (t : Text) (v u : ℕ) (r : Reading end t v u) where
  behind_is : behind t ≡ end ∷ drop u t
  behind_is =
      starts_is end (behind t) r.end_there ∙ rw (drop-drop 1 (length (digit_run t)) t, r.used)

-- the first field, the fields after it, and the bytes of the line
module _ (t : Text) (v u : ℕ) where
  pub comma_fields : Reading comma t v u → fields_at t ≡ digit_run t ∷ fields_at (drop u t)
  comma_fields r =
      run_fields t
      ∙ rw (behind_is comma t v u r, line_byte (drop u t) comma (omega arith), fields_comma (line_at (drop u t)), append-nil (digit_run t))

  pub comma_span : Reading comma t v u → span_of line_feed t ≡ u + span_of line_feed (drop u t)
  comma_span r =
      let e : span_of line_feed (behind t) ≡ suc (span_of line_feed (drop u t)) = rw (behind_is comma t v u r) (span_byte (drop u t) comma (omega arith)) in
      omega (arith, run_span t, r.used)

  pub comma_ended : Reading comma t v u → is_ended_at t ≡ is_ended_at (drop u t)
  comma_ended r = run_ended t ∙ rw (behind_is comma t v u r) (ended_byte (drop u t) comma (omega arith))

  pub feed_fields : Reading line_feed t v u → fields_at t ≡ digit_run t ∷ []
  feed_fields r = run_fields t ∙ rw (behind_is line_feed t v u r, line_feed_lem (drop u t), fields_nil, append-nil (digit_run t))

  pub feed_span : Reading line_feed t v u → span_of line_feed t + 1 ≡ u
  feed_span r =
      let e : span_of line_feed (behind t) ≡ 0 = rw (behind_is line_feed t v u r) (span_feed (drop u t)) in
      omega (arith, run_span t, r.used)

-- a number of n digits is below 10 ^ n
value_below : (v : ℕ) (d : Text) → every is_digit d ≡ true → value_from v d < (v + 1) * 10 ^ length d
unfolding every value_from
value_below v [] h = omega arith
value_below v (b ∷ d) h =
    let p = (and-eq-true_iff (is_digit b) (every is_digit d)).0 h in
    let r = digit_range b p.0 in
    let q : v * 10 + (b - 48) + 1 ≤ (v + 1) * 10 = omega arith in
    rw (pow-suc 10 (length d)) (omega (arith, value_below (v * 10 + (b - 48)) d p.1, mul-le-mul_right (10 ^ length d) q))

number_facts : (most : ℕ) (d : Text) → is_number most d ≡ true → (every is_digit d ≡ true) × (length d ≤ most)
unfolding is_number
number_facts most d h =
    let p = (and-eq-true_iff (every is_digit d && leb 1 (length d) && leb (length d) most) (not (zero_led d))).0 h in
    let q = (and-eq-true_iff (every is_digit d && leb 1 (length d)) (leb (length d) most)).0 p.0 in
    let r = (and-eq-true_iff (every is_digit d) (leb 1 (length d))).0 q.0 in
    (r.0, leb-true (length d) most q.1)

number_below : (d : Text) → is_number sheet_digits d ≡ true → value_of d < 1000000000
number_below d h =
    let f = number_facts sheet_digits d h in
    omega (arith, value_below 0 d f.0, pow-le-pow_right {n = 10} (omega arith) f.1)

pub reading_below : (t : Text) (v n : ℕ) → number_at sheet_digits t ≡ read v n → v < 1000000000
unfolding number_at
reading_below t v n h = go (is_number sheet_digits (digit_run t)) refl h
  where
    go : (x : Bool) → is_number sheet_digits (digit_run t) ≡ x → cond x (read (value_of (digit_run t)) (length (digit_run t))) None ≡ read v n
        → v < 1000000000
    go true e q = omega (arith, (read_once q).0, number_below (digit_run t) e)
    go false e q = let z : ◌≡◌ {A = ℕ} 0 1 = cc in absurd (omega arith)

-- a field that passes is read, and what stands behind it passes
passed : (end : ℕ) (p : Text → Bool) (t : Text) {v u : ℕ} → then_in p t (field_at end t) ≡ true → v ≡ value_of (digit_run t) → u ≡ length (digit_run t) + 1
    → Reading end t v u × (p (drop u t) ≡ true)
passed end p t {v} {u} h i j = go (field_at end t) refl h
  where
    go : (f : Option Numeral) → field_at end t ≡ f → then_in p t f ≡ true → Reading end t v u × (p (drop u t) ≡ true)
    go None e q = absurd (false≢true q)
    go (Some f) e q =
        let r = reading end t f.value f.used e in
        let a : f.value ≡ v = omega (arith, r.value, i) in
        let b : f.used ≡ u = omega (arith, r.used, j) in
        (rw (a, b) at r, rw b at q)

-- the first of several numbers that pass, and the last
module _ (t : Text) {v u : ℕ} where
  pub first_passed : (k : ℕ) → numbers_in (suc (suc k)) t ≡ true → v ≡ value_of (digit_run t) → u ≡ length (digit_run t) + 1
      → Reading comma t v u × (numbers_in (suc k) (drop u t) ≡ true)
  first_passed k h = passed comma (numbers_in (suc k)) t (sym (numbers_more k t) ∙ h)

  pub last_passed : numbers_in 1 t ≡ true → v ≡ value_of (digit_run t) → u ≡ length (digit_run t) + 1 → Reading line_feed t v u
  last_passed h i j = (passed line_feed (λ w. true) t (sym (numbers_last t) ∙ h) i j).0

pub has_digits : {end : ℕ} {t : Text} {v u : ℕ} → Reading end t v u → HasDigits t
has_digits {t = t} r = ((number_facts sheet_digits (digit_run t) r.number).1, omega (arith, r.used, r.within))
