-- A labels text that is written of names and of where labels hold: it is read back as these, and its layout is right. Assumes nothing.
use Rattle.std.specs.Prelude.{◌≡◌, Bool, ◌&&◌, eqb, leb}
use Rattle.std.proofs.Math.Path.{refl, ap}
use Rattle.std.proofs.Common.{sym, ◌∙◌}
use Rattle.std.proofs.Math.Bool.{true, false, not, and-eq-true_iff}
use mathlib.Core.List.{List, [], ◌∷◌, ◌++◌, map, head_d}
use Prim.Native.Nat.{ℕ, zero, suc, ◌+◌, ◌^◌, ◌≤◌, ◌<◌}
use native.Mathlib.Omega.{arith}
use Rattle.std.proofs.Math.ListN.{length}
use borrow.Author.Tests.{eq-eqb, ne_eqb, leb-true}
use Rattle.csl.specs.Text.{Text, bytes, same, every}
use Rattle.csl.specs.Limits.{most_letters}
use Rattle.csl.specs.Line.{line_feed, comma, lines_of, first_line, later_lines, is_ended, fields_of}
use Rattle.csl.specs.Number.{value_of}
use Rattle.csl.specs.Labels.{is_letter, is_word, names_of, is_mark, state_line, labels_layout, in_turn, states_of, mark_at}
use Rattle.csl.specs.Order.{by_number}
use Rattle.csl.specs.Report.{decimal}
use Rattle.csl.specs.Import.{fields_text, mark_text, state_text, labels_text}
use Rattle.same_chain.specs.Digits.{every_append, value_decimal, decimal_number}
use Rattle.same_chain.specs.Joined.{free}
use Rattle.same_chain.specs.MovesText.{digits_free}
use Rattle.imported.specs.Written.{lines_back, fields_back, fields_free, every_weaker, below_next, below_length, below_every, below_at}

-- words and marks are free of commas and of line feeds
letter_other : (mark b : ℕ) → mark < 97 → is_letter b ≡ true → not (eqb b mark) ≡ true
letter_other mark b h k =
    let l : 97 ≤ b = leb-true 97 b ((and-eq-true_iff (leb 97 b) (leb b 122)).0 k).0 in
    rw (ne_eqb b mark (λ (e : b ≡ mark). absurd (omega arith))) refl

pub word_free : (mark : ℕ) → mark < 97 → (w : Text) → is_word w ≡ true → free mark w ≡ true
unfolding is_word
word_free mark h w k =
    let i = ((and-eq-true_iff (every is_letter w && leb 1 (length w)) (leb (length w) most_letters)).0 k).0 in
    every_weaker is_letter (λ b. not (eqb b mark)) (λ b j. letter_other mark b h j) w
    ((and-eq-true_iff (every is_letter w) (leb 1 (length w))).0 i).0

words_free : (mark : ℕ) → mark < 97 → (ws : List Text) → every is_word ws ≡ true → every (free mark) ws ≡ true
words_free mark h ws k = every_weaker is_word (free mark) (word_free mark h) ws k

mark_free : (mark : ℕ) → mark < 48 → (holds : Bool) → free mark (mark_text holds) ≡ true
unfolding every
mark_free mark h true = rw (ne_eqb 49 mark (λ (e : 49 ≡ mark). absurd (omega arith))) refl
mark_free mark h false = rw (ne_eqb 48 mark (λ (e : 48 ≡ mark). absurd (omega arith))) refl

state_free : (mark : ℕ) → mark < 97 → free mark (bytes "state") ≡ true
unfolding is_word every
state_free mark h = word_free mark h (bytes "state") refl

-- a mark is one
is_mark_lem : (holds : Bool) → is_mark (mark_text holds) ≡ true
unfolding is_mark same
is_mark_lem true = refl
is_mark_lem false = refl

is_one : (holds : Bool) → same (mark_text holds) (bytes "1") ≡ holds
unfolding same
is_one true = refl
is_one false = refl

-- the lines of states: their fields, and their numbers in turn
module _ (holds : ℕ → ℕ → Bool) (k : ℕ) where
  abbrev marks_at : ℕ → List Text
  marks_at s = map (λ i. mark_text (holds s i)) (by_number k)

  marks_free : (mark s : ℕ) → mark < 48 → every (free mark) (marks_at s) ≡ true
  marks_free mark s h = below_every (λ i. mark_text (holds s i)) (free mark) k (λ i l. mark_free mark h (holds s i))

  row_fields : (s : ℕ) → fields_of (state_text holds k s) ≡ decimal s ∷ marks_at s
  unfolding state_text every
  row_fields s = fields_back (decimal s) (marks_at s) (rw (digits_free comma (omega arith) s, marks_free comma s (omega arith)) refl)

  row_free : (s : ℕ) → free line_feed (state_text holds k s) ≡ true
  unfolding state_text
  row_free s =
      every_append (λ b. not (eqb b line_feed)) (decimal s) (fields_text (marks_at s)) (digits_free line_feed (omega arith) s)
      (fields_free (marks_at s) (marks_free line_feed s (omega arith)))

  row_right : (s : ℕ) → s < 10 ^ 9 → state_line (suc k) (state_text holds k s) ≡ true
  unfolding state_line head_d
  row_right s h =
      rw (
        row_fields s,
        below_length (λ i. mark_text (holds s i)) k,
        eq-eqb (suc k) (suc k) refl,
        decimal_number 8 s h,
        below_every (λ i. mark_text (holds s i)) is_mark k (λ i l. is_mark_lem (holds s i)),
      ) refl

  turn_more : (j : ℕ) (ls : List Text) (l : Text) → in_turn j (ls ++ (l ∷ [])) ≡ (in_turn j ls && eqb (value_of (head_d (fields_of l) [])) (j + length ls))
  unfolding in_turn
  turn_more j [] l = let e : j + 0 ≡ j = omega arith in rw e (and_right (eqb (value_of (head_d (fields_of l) [])) j))
    where
      and_right : (x : Bool) → (x && true) ≡ x
      and_right true = refl
      and_right false = refl
  turn_more j (m ∷ ls) l =
      let e : suc j + length ls ≡ j + suc (length ls) = omega arith in
      rw (turn_more (suc j) ls l, e) (sym (and_assoc (eqb (value_of (head_d (fields_of m) [])) j) _ _))
    where
      and_assoc : (x y z : Bool) → ((x && y) && z) ≡ (x && (y && z))
      and_assoc true y z = refl
      and_assoc false y z = refl

  rows_turn : (n : ℕ) → in_turn 0 (map (state_text holds k) (by_number n)) ≡ true
  unfolding in_turn by_number head_d
  rows_turn zero = refl
  rows_turn (suc n) =
      rw (
        below_next (state_text holds k) n,
        turn_more 0 (map (state_text holds k) (by_number n)) (state_text holds k n),
        rows_turn n,
        row_fields n,
        value_decimal n,
        below_length (state_text holds k) n,
      ) (eq-eqb n (0 + n) (omega arith))

-- the whole text
module _ (names : List Text) (words : every is_word names ≡ true) (holds : ℕ → ℕ → Bool) (n : ℕ) where
  abbrev k : ℕ
  k = length names

  abbrev head : Text
  head = bytes "state" ++ fields_text names

  abbrev rows : List Text
  rows = map (state_text holds k) (by_number n)

  abbrev text : Text
  text = labels_text names holds n

  head_fields : fields_of head ≡ bytes "state" ∷ names
  unfolding every
  head_fields = fields_back (bytes "state") names (rw (state_free comma (omega arith), words_free comma (omega arith) names words) refl)

  lines_free : every (free line_feed) (head ∷ rows) ≡ true
  unfolding every
  lines_free =
      let h : free line_feed head ≡ true
      = every_append (λ b. not (eqb b line_feed)) (bytes "state") (fields_text names) (state_free line_feed (omega arith))
      (fields_free names (words_free line_feed (omega arith) names words)) in
      let r : every (free line_feed) rows ≡ true = below_every (state_text holds k) (free line_feed) n (λ s l. row_free holds k s) in
      (and-eq-true_iff (free line_feed head) (every (free line_feed) rows)).1 (h, r)

  lines_are : lines_of text ≡ head ∷ rows
  unfolding labels_text
  lines_are = (lines_back (head ∷ rows) lines_free).0

  pub first_is : first_line text ≡ head
  unfolding first_line head_d
  first_is = rw lines_are refl

  later_are : later_lines text ≡ rows
  unfolding later_lines
  later_are = rw lines_are refl

  pub names_read : names_of text ≡ names
  unfolding names_of
  names_read = rw (first_is, head_fields) refl

  pub states_read : states_of text ≡ n
  unfolding states_of
  states_read = ap length later_are ∙ below_length (state_text holds k) n

  pub turn_read : in_turn 0 (later_lines text) ≡ true
  turn_read = ap (in_turn 0) later_are ∙ rows_turn holds k n

  pub mark_read : (s i : ℕ) → s < n → i < k → mark_at text s i ≡ holds s i
  unfolding mark_at
  mark_read s i h j =
      rw (later_are, below_at (state_text holds k) n s [] h, row_fields holds k s, below_at (λ x. mark_text (holds s x)) k i [] j) (is_one (holds s i))

  ended_read : is_ended text ≡ true
  unfolding labels_text
  ended_read = (lines_back (head ∷ rows) lines_free).1

  pub layout_read : n ≤ 10 ^ 9 → labels_layout text ≡ true
  unfolding labels_layout
  layout_read h =
      let r : every (state_line (suc k)) rows ≡ true = below_every (state_text holds k) (state_line (suc k)) n (λ s l. row_right holds k s (omega arith)) in
      rw (ended_read, first_is, head_fields, later_are, r) refl
