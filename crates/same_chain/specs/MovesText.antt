-- A moves text and its list of moves: what is written of a list is read back as that list, and a text whose layout and first line are right is
-- what is written of its list. Assumes nothing.
use Rattle.std.specs.Prelude.{◌≡◌, refl, true, not, ℕ, ◌+◌, ◌^◌, ◌≤◌, ◌<◌, length, get_or, eqb}
use Rattle.std.proofs.Common.{sym, ap, ◌∙◌, arith, length-append, eqb-true, ne_eqb}
use Rattle.std.proofs.Math.Bool.{and-eq-true_iff}
use mathlib.Core.List.{List, [], ◌∷◌, ◌++◌, append_assoc, map, head_d, tail}
use Rattle.csl.specs.Text.{Text, bytes, same, every}
use Rattle.csl.specs.Limits.{sheet_digits}
use Rattle.csl.specs.Line.{line_feed, comma, parts, lines_of, first_line, later_lines, is_ended, fields_of}
use Rattle.csl.specs.Number.{is_number, value_of}
use Rattle.csl.specs.Moves.{Move, moves_head, move_line, moves_layout, field_value, move_of, moves_of}
use Rattle.csl.specs.Report.{decimal}
use Rattle.csl.specs.Copy.{move_text, lines_text, moves_text}
use Rattle.csl.proofs.Laws.Grammar.{same_true}
use Rattle.same_chain.specs.Digits.{every_append, digits_pass, value_decimal, decimal_number, number_written}
use Rattle.same_chain.specs.Joined.{joined, free, joined_more, joined_parts, parts_joined, ended, lines_written, lines_read, lines_ended}

-- the digits of a number are neither commas nor line feeds
pub digits_free : (mark : ℕ) → mark < 48 → (n : ℕ) → free mark (decimal n) ≡ true
digits_free mark h n = digits_pass (λ b. not (eqb b mark)) (λ d l. rw (ne_eqb (48 + d) mark (λ e. omega arith)) refl) n

-- a line and its move
abbrev numbers_of : Move → List Text
numbers_of m = decimal m.to ∷ decimal m.rate ∷ []

line_joined : (m : Move) → move_text m ≡ joined comma (decimal m.from ∷ numbers_of m)
unfolding joined
line_joined m = append_assoc (decimal m.from) (comma ∷ decimal m.to) (comma ∷ decimal m.rate)

fields_read : (m : Move) → fields_of (move_text m) ≡ decimal m.from ∷ numbers_of m
unfolding fields_of every
fields_read m =
    ap (parts comma) (line_joined m)
    ∙ parts_joined comma (decimal m.from) (numbers_of m)
    (rw (digits_free comma (omega arith) m.from, digits_free comma (omega arith) m.to, digits_free comma (omega arith) m.rate) refl)

move_read : (m : Move) → move_of (move_text m) ≡ m
unfolding move_of field_value
move_read m = rw (fields_read m, value_decimal m.from, value_decimal m.to, value_decimal m.rate) refl

three_written : (fs : List Text) → length fs ≡ 3 → every (is_number sheet_digits) fs ≡ true
    → joined comma (decimal (value_of (get_or fs 0 [])) ∷ decimal (value_of (get_or fs 1 [])) ∷ decimal (value_of (get_or fs 2 [])) ∷ []) ≡ joined comma fs
unfolding every
three_written [] h e = absurd (omega arith)
three_written (a ∷ []) h e = absurd (omega arith)
three_written (a ∷ b ∷ []) h e = absurd (omega arith)
three_written (a ∷ b ∷ c ∷ []) h e =
    let i = (and-eq-true_iff (is_number sheet_digits a) _).0 e in
    let j = (and-eq-true_iff (is_number sheet_digits b) _).0 i.1 in
    let k = (and-eq-true_iff (is_number sheet_digits c) true).0 j.1 in
    rw (number_written sheet_digits a i.0, number_written sheet_digits b j.0, number_written sheet_digits c k.0) refl
three_written (a ∷ b ∷ c ∷ d ∷ fs) h e = absurd (omega arith)

line_written : (line : Text) → move_line line ≡ true → move_text (move_of line) ≡ line
unfolding move_line move_of field_value fields_of
line_written line h =
    let i = (and-eq-true_iff (eqb (length (parts comma line)) 3) (every (is_number sheet_digits) (parts comma line))).0 h in
    line_joined (move_of line) ∙ three_written (parts comma line) (eqb-true _ _ i.0) i.1 ∙ joined_parts comma line

-- lines and their moves
moves_read_back : (ms : List Move) → map move_of (map move_text ms) ≡ ms
moves_read_back [] = refl
moves_read_back (m ∷ ms) = both (move_of (move_text m)) m _ ms (move_read m) (moves_read_back ms)
  where
    both : (a b : Move) (l k : List Move) → a ≡ b → l ≡ k → ◌≡◌ {A = List Move} (a ∷ l) (b ∷ k)
    both a b l k h i = rw (h, i) refl

lines_written_back : (ls : List Text) → every move_line ls ≡ true → map move_text (map move_of ls) ≡ ls
unfolding every
lines_written_back [] h = refl
lines_written_back (l ∷ ls) h =
    let i = (and-eq-true_iff (move_line l) (every move_line ls)).0 h in
    both (move_text (move_of l)) l _ ls (line_written l i.0) (lines_written_back ls i.1)
  where
    both : (a b : Text) (l k : List Text) → a ≡ b → l ≡ k → ◌≡◌ {A = List Text} (a ∷ l) (b ∷ k)
    both a b l k h i = rw (h, i) refl

-- the text of a list is the first line and the moves' lines, each ended
abbrev lines_in : List Move → List Text
lines_in ms = bytes "from,to,rate" ∷ map move_text ms

ended_some : (ls : List Text) → 1 ≤ length (ended ls)
ended_some ls = omega (arith, length-append ls ([] ∷ []))

lines_joined : (ms : List Move) → joined line_feed (ended (map move_text ms)) ≡ lines_text ms
unfolding joined lines_text
lines_joined [] = refl
lines_joined (m ∷ ms) =
    joined_more line_feed (move_text m) (ended (map move_text ms)) (ended_some (map move_text ms))
    ∙ ap (λ (t : Text). move_text m ++ (line_feed ∷ t)) (lines_joined ms)

text_joined : (ms : List Move) → joined line_feed (ended (lines_in ms)) ≡ moves_text ms
unfolding moves_text
text_joined ms =
    joined_more line_feed (bytes "from,to,rate") (ended (map move_text ms)) (ended_some (map move_text ms))
    ∙ ap (λ (t : Text). bytes "from,to,rate" ++ (line_feed ∷ t)) (lines_joined ms)

line_free : (m : Move) → free line_feed (move_text m) ≡ true
unfolding every
line_free m =
    every_append _ (decimal m.from ++ (comma ∷ decimal m.to)) _
    (every_append _ (decimal m.from) _ (digits_free line_feed (omega arith) m.from) (digits_free line_feed (omega arith) m.to))
    (digits_free line_feed (omega arith) m.rate)

moves_free : (ms : List Move) → every (free line_feed) (ended (map move_text ms)) ≡ true
unfolding every
moves_free [] = refl
moves_free (m ∷ ms) = rw (line_free m, moves_free ms) refl

lines_free : (ms : List Move) → every (free line_feed) (bytes "from,to,rate" ∷ ended (map move_text ms)) ≡ true
unfolding every
lines_free ms = moves_free ms

-- so what is written of a list is read back
lines_are : (ms : List Move) → lines_of (moves_text ms) ≡ lines_in ms
lines_are ms = ap lines_of (sym (text_joined ms)) ∙ lines_read (bytes "from,to,rate") (map move_text ms) (lines_free ms)

pub moves_read : (ms : List Move) → moves_of (moves_text ms) ≡ ms
unfolding moves_of later_lines
moves_read ms = ap (λ (l : List Text). map move_of (tail l)) (lines_are ms) ∙ moves_read_back ms

pub head_read : (ms : List Move) → moves_head (moves_text ms) ≡ true
unfolding moves_head first_line same head_d
head_read ms = rw (lines_are ms) refl

-- its layout is right where its numbers are short enough
unfoldable pub Short : List Move → Type 0
Short [] = Unit {0}
Short (m ∷ ms) = (m.from < 10 ^ 9) × (m.to < 10 ^ 9) × (m.rate < 10 ^ 9) × Short ms

line_right : (m : Move) → m.from < 10 ^ 9 → m.to < 10 ^ 9 → m.rate < 10 ^ 9 → move_line (move_text m) ≡ true
unfolding move_line every
line_right m h i k = rw (fields_read m, decimal_number 8 m.from h, decimal_number 8 m.to i, decimal_number 8 m.rate k) refl

lines_right : (ms : List Move) → Short ms → every move_line (map move_text ms) ≡ true
unfolding every Short
lines_right [] h = refl
lines_right (m ∷ ms) h = rw (line_right m h.0 h.1 h.2, lines_right ms h.3) refl

pub layout_read : (ms : List Move) → Short ms → moves_layout (moves_text ms) ≡ true
unfolding moves_layout later_lines
layout_read ms h =
    let e : is_ended (moves_text ms) ≡ true
    = ap is_ended (sym (text_joined ms)) ∙ lines_ended (bytes "from,to,rate") (map move_text ms) (lines_free ms) in
    rw (e, lines_are ms, lines_right ms h) refl

-- and a text is what is written of its list
headed : (ls : List Text) (first : Text) → head_d ls [] ≡ first → 1 ≤ length first → ls ≡ first ∷ tail ls
unfolding head_d
headed [] first h l = absurd (omega (arith, ap length h))
headed (x ∷ ls) first h l = rw h refl

pub text_written : (t : Text) → moves_layout t ≡ true → moves_head t ≡ true → moves_text (moves_of t) ≡ t
unfolding moves_layout moves_head moves_of later_lines first_line
text_written t h k =
    let i = (and-eq-true_iff (is_ended t) (every move_line (tail (lines_of t)))).0 h in
    let e : lines_of t ≡ lines_in (map move_of (tail (lines_of t)))
    = headed (lines_of t) (bytes "from,to,rate") (same_true _ _ k) (omega arith)
    ∙ ap (λ (l : List Text). bytes "from,to,rate" ∷ l) (sym (lines_written_back (tail (lines_of t)) i.1)) in
    sym (text_joined (map move_of (tail (lines_of t)))) ∙ ap (λ (l : List Text). joined line_feed (ended l)) (sym e) ∙ lines_written t i.0
