-- A text with its commas and spaces exchanged: what one byte sets apart in it, the other sets apart in the text itself. Assumes nothing.
use Rattle.std.specs.Prelude.{◌≡◌, refl, Bool, true, false, cond, List, [], ◌∷◌, map, ℕ, ◌+◌, ◌*◌, ◌-◌, get_or, eqb}
use Rattle.std.proofs.Common.{sym, ap, ◌∙◌, eqb-true, eq-eqb, ne_eqb}
use Rattle.std.proofs.lemmas.List.{length-map}
use Rattle.std.proofs.Math.ListN.{get_or-map}
use Rattle.std.proofs.lemmas.Bool.{eqb-false}
use Rattle.csl.specs.Text.{Text, every}
use Rattle.csl.specs.Limits.{sheet_digits}
use Rattle.csl.specs.Line.{line_feed, comma, space, ahead, parts, ended_parts, no_remnant, lines_of, is_ended, fields_of}
use Rattle.csl.specs.Number.{is_digit, zero_led, is_number, value_from, value_of}
use Rattle.csl.specs.Moves.{move_line, field_value, move_of}
use Rattle.csl.specs.Import.{words_of, numbers_line, transition_of}

abbrev pub exchanged_byte : ℕ → ℕ
exchanged_byte b = cond (eqb b space) comma (cond (eqb b comma) space b)

abbrev pub exchanged : Text → Text
exchanged t = map exchanged_byte t

-- what holds of a comma for a space, of a space for a comma, and of every other byte for itself
by_byte : (P : ℕ → ℕ → Type 0) → P space comma → P comma space → ((b : ℕ) → P b b) → (b : ℕ) → P b (exchanged_byte b)
by_byte P one other same b = go (eqb b space) (eqb b comma) refl refl
  where
    go : (x y : Bool) → eqb b space ≡ x → eqb b comma ≡ y → P b (cond x comma (cond y space b))
    go true y e f = rw (eqb-true b space e) one
    go false true e f = rw (eqb-true b comma f) other
    go false false e f = same b

twice : (b : ℕ) → exchanged_byte (exchanged_byte b) ≡ b
twice b = go (eqb b space) (eqb b comma) refl refl
  where
    go : (x y : Bool) → eqb b space ≡ x → eqb b comma ≡ y → exchanged_byte (cond x comma (cond y space b)) ≡ b
    go true y e f = sym (eqb-true b space e)
    go false true e f = sym (eqb-true b comma f)
    go false false e f = rw (e, f) refl

same_byte : (b m : ℕ) → eqb (exchanged_byte b) (exchanged_byte m) ≡ eqb b m
same_byte b m = go (eqb b m) refl
  where
    go : (x : Bool) → eqb b m ≡ x → eqb (exchanged_byte b) (exchanged_byte m) ≡ x
    go true e = eq-eqb (exchanged_byte b) (exchanged_byte m) (ap exchanged_byte (eqb-true b m e))
    go false e = ne_eqb (exchanged_byte b) (exchanged_byte m) (λ q. eqb-false b m e (sym (twice b) ∙ ap exchanged_byte q ∙ twice m))

-- parts, lines
ahead_map : (b : ℕ) (ps : List Text) → ahead (exchanged_byte b) (map exchanged ps) ≡ map exchanged (ahead b ps)
unfolding ahead
ahead_map b [] = refl
ahead_map b (p ∷ ps) = refl

pub parts_exchanged : (mark : ℕ) (t : Text) → parts (exchanged_byte mark) (exchanged t) ≡ map exchanged (parts mark t)
unfolding parts
parts_exchanged mark [] = refl
parts_exchanged mark (b ∷ t) = rw (same_byte b mark, parts_exchanged mark t) (go (eqb b mark) (parts mark t))
  where
    go : (x : Bool) (ps : List Text) → cond x ([] ∷ map exchanged ps) (ahead (exchanged_byte b) (map exchanged ps)) ≡ map exchanged (cond x ([] ∷ ps) (ahead b ps))
    go true ps = refl
    go false ps = ahead_map b ps

ended_map : (ps : List Text) → ended_parts (map exchanged ps) ≡ map exchanged (ended_parts ps)
unfolding ended_parts
ended_map [] = refl
ended_map (p ∷ []) = refl
ended_map (p ∷ q ∷ ps) = ap (λ (l : List Text). exchanged p ∷ l) (ended_map (q ∷ ps))

remnant_map : (ps : List Text) → no_remnant (map exchanged ps) ≡ no_remnant ps
unfolding no_remnant
remnant_map [] = refl
remnant_map ([] ∷ []) = refl
remnant_map ((b ∷ p) ∷ []) = refl
remnant_map ([] ∷ q ∷ ps) = remnant_map (q ∷ ps)
remnant_map ((b ∷ p) ∷ q ∷ ps) = remnant_map (q ∷ ps)

pub lines_exchanged : (t : Text) → lines_of (exchanged t) ≡ map exchanged (lines_of t)
unfolding lines_of
lines_exchanged t = ap ended_parts (parts_exchanged line_feed t) ∙ ended_map (parts line_feed t)

pub ended_exchanged : (t : Text) → is_ended (exchanged t) ≡ is_ended t
unfolding is_ended
ended_exchanged t = ap no_remnant (parts_exchanged line_feed t) ∙ remnant_map (parts line_feed t)

-- numbers: neither byte is a digit
digit_same : (b : ℕ) → is_digit (exchanged_byte b) ≡ is_digit b
digit_same b = by_byte (λ x y. is_digit y ≡ is_digit x) refl refl (λ x. refl) b

digits_same : (w : Text) → every is_digit (exchanged w) ≡ every is_digit w
unfolding every
digits_same [] = refl
digits_same (b ∷ w) = rw (digit_same b, digits_same w) refl

zero_led_same : (w : Text) → zero_led (exchanged w) ≡ zero_led w
unfolding zero_led
zero_led_same [] = refl
zero_led_same (b ∷ []) = refl
zero_led_same (b ∷ c ∷ w) = same_byte b 48

number_same : (w : Text) → is_number sheet_digits (exchanged w) ≡ is_number sheet_digits w
unfolding is_number
number_same w = rw (digits_same w, length-map w exchanged_byte, zero_led_same w) refl

value_same : (v : ℕ) (w : Text) → value_from v (exchanged w) ≡ value_from v w
unfolding value_from
value_same v [] = refl
value_same v (b ∷ w) =
    let e : exchanged_byte b - 48 ≡ b - 48 = by_byte (λ x y. y - 48 ≡ x - 48) refl refl (λ x. refl) b in
    ap (λ (d : ℕ). value_from (v * 10 + d) (exchanged w)) e ∙ value_same (v * 10 + (b - 48)) w

-- a line of numbers that spaces set apart becomes one that commas do
fields_exchanged : (l : Text) → fields_of (exchanged l) ≡ map exchanged (words_of l)
unfolding fields_of
fields_exchanged l = parts_exchanged space l

numbers_same : (ws : List Text) → every (is_number sheet_digits) (map exchanged ws) ≡ every (is_number sheet_digits) ws
unfolding every
numbers_same [] = refl
numbers_same (w ∷ ws) = rw (number_same w, numbers_same ws) refl

pub line_exchanged : (l : Text) → move_line (exchanged l) ≡ numbers_line 3 l
unfolding move_line numbers_line
line_exchanged l = rw (fields_exchanged l, length-map (words_of l) exchanged, numbers_same (words_of l)) refl

value_exchanged : (l : Text) (i : ℕ) → field_value (exchanged l) i ≡ value_of (get_or (words_of l) i [])
unfolding field_value
value_exchanged l i = rw (fields_exchanged l, get_or-map exchanged (words_of l) i []) (value_same 0 (get_or (words_of l) i []))

pub move_exchanged : (l : Text) → move_of (exchanged l) ≡ transition_of l
unfolding move_of transition_of
move_exchanged l = rw (value_exchanged l 0, value_exchanged l 1, value_exchanged l 2) refl
