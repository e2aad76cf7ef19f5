-- The state lines of a text, one by one, and the facts of the text. Assumes nothing.
use mathlib.Core.Path.{◌≡◌, refl, sym, ap, ◌∙◌}
use Prim.Native.Nat.{ℕ, suc, ◌+◌, ◌-◌, ◌^◌, ◌≤◌, ◌<◌}
use native.Mathlib.Omega.{arith}
use native.Mathlib.Numerals.{add-one}
use mathlib.Core.Bool.{Bool, true, false, cond, ◌&&◌, and-true, and_assoc, and-eq-true_iff}
use mathlib.Core.List.{[], ◌∷◌, head_d, tail}
use lib.ListN.{length, take, drop, length-drop}
use mir.Val.{Fits}
use mir.Syntax.{w64}
use lib.Dec.{eqb, eqb-suc-zero}
use Rattle.csl.specs.Text.{Text, same, every}
use Rattle.csl.specs.Number.{value_of}
use Rattle.csl.specs.Line.{line_feed, lines_of, is_ended, fields_of, parts}
use Rattle.csl.specs.Labels.{state_line, in_turn, names_of, labels_head, labels_layout, states_of}
use Rattle.texts.specs.Span.{span_of}
use Rattle.texts.specs.Cut.{rest_is, ended_cut, ended_none, first_cut, first_none, later_cut, later_none}
use Rattle.std.specs.Prelude.{Option, Some, None}
use Rattle.texts.specs.declared.digits.Numeral.{Numeral}
use Rattle.texts.specs.Digits.{read, read_once}
use Rattle.texts.specs.LineAt.{line_at, is_ended_at, fields_at, fields_some}
use Rattle.texts.specs.Lines.{lines_pass, next_line, lines_are, lines_end, pass_more, pass_not, pass_end}
use Rattle.labels.specs.FirstLine.{commas_in, is_first_line}
use Rattle.labels.proofs.CommasLaw.{commas_fields}
use Rattle.labels.proofs.FirstLineLaw.{first_line_lem}
use Rattle.labels.specs.StateLine.{is_state_line_at, state_line_at, StateLineFits, state_lines_at}
use Rattle.labels.specs.Facts.{bare, labels_facts, facts_from}
use Rattle.labels.specs.declared.lines.StateLines.{StateLines}

abbrev lines : (count : ℕ) (turn : Bool) → Option StateLines
lines count turn = Some (record { count = count; turn = turn })

-- what a state line that was read says
pub record Told (names : ℕ) (t : Text) (v u : ℕ) : Type 0 where
  pub ended : is_ended_at t ≡ true
  pub passes : state_line (suc names) (line_at t) ≡ true
  pub its_number : value_of (head_d (fields_at t) []) ≡ v
  pub its_bytes : span_of line_feed t + 1 ≡ u

module _ (names : ℕ) (t : Text) where
  pub told : (v u : ℕ) → state_line_at names t ≡ read v u → Told names t v u
  unfolding state_line_at is_state_line_at
  told v u h = go (is_ended_at t && state_line (suc names) (line_at t)) refl h
    where
      go : (x : Bool) → (is_ended_at t && state_line (suc names) (line_at t)) ≡ x
          → cond x (read (value_of (head_d (fields_at t) [])) (span_of line_feed t + 1)) None ≡ read v u → Told names t v u
      go true e q =
          let p = (and-eq-true_iff (is_ended_at t) (state_line (suc names) (line_at t))).0 e in
          record { ended = p.0; passes = p.1; its_number = (read_once q).0; its_bytes = (read_once q).1 }
      go false e q = let z : ◌≡◌ {A = ℕ} 0 1 = cc in absurd (omega arith)

  pub untold : state_line_at names t ≡ None → (is_ended_at t && state_line (suc names) (line_at t)) ≡ false
  unfolding state_line_at is_state_line_at
  untold h = go (is_ended_at t && state_line (suc names) (line_at t)) h
    where
      go : (x : Bool) → cond x (read (value_of (head_d (fields_at t) [])) (span_of line_feed t + 1)) None ≡ None → x ≡ false
      go true q = let z : ◌≡◌ {A = ℕ} 0 1 = cc in absurd (omega arith)
      go false q = refl

  module _ (k : ℕ) (turn : Bool) where
    rows_end : length t ≤ 0 → state_lines_at names k turn t ≡ lines k turn
    unfolding state_lines_at in_turn
    rows_end h = let e : k + 0 ≡ k = omega arith in rw (pass_end (state_line (suc names)) t h, lines_end t h, and-true turn, e)

    rows_bad : 0 < length t → state_line_at names t ≡ None → state_lines_at names k turn t ≡ None
    unfolding state_lines_at
    rows_bad l h = rw (pass_not (state_line (suc names)) t l (untold h))

    rows_more : (v u : ℕ) → state_line_at names t ≡ read v u → state_lines_at names k turn t ≡ state_lines_at names (k + 1) (turn && eqb v k) (drop u t)
    unfolding state_lines_at in_turn
    rows_more v u h =
        let w = told v u h in
        let e : k + suc (length (lines_of (drop u t))) ≡ suc k + length (lines_of (drop u t)) = omega arith in
        rw (
          pass_more (state_line (suc names)) t w.ended w.passes,
          lines_are t w.ended,
          w.its_number,
          w.its_bytes,
          and_assoc turn (eqb v k) (in_turn (k + 1) (lines_of (drop u t))),
          add-one k,
          e,
        )

-- the bytes of a state line that was read
module _ {r : Option Numeral} {n : Numeral} (h : r ≡ Some n) (names : ℕ) (t : Text) (f : StateLineFits names (length t) r) where
  pub line_ends : n.used ≤ length t
  line_ends = let k = rw h at f in omega arith

  pub line_falls : length (take (length t - n.used) (drop n.used t)) < length t
  line_falls = let k = rw h at f in rw rest_is (omega (arith, length-drop n.used t))

-- `count` lines of s are read, and t is the rest
pub record Counting (names : ℕ) (s t : Text) (count : ℕ) (turn : Bool) : Type 0 where
  pub within : count + length t ≤ length s
  pub same : state_lines_at names count turn t ≡ state_lines_at names 0 true s

pub count_none : (names : ℕ) (s : Text) → Counting names s s 0 true
count_none names s = record { within = omega arith; same = refl }

module _ {names : ℕ} {s t : Text} {count : ℕ} {turn : Bool} (v : Counting names s t count turn) where
  pub count_fits : 0 < length t → length s < 2 ^ 64 → Fits w64 (count + 1)
  count_fits h l = omega (arith, v.within)

  pub count_done : length t ≤ 0 → lines count turn ≡ state_lines_at names 0 true s
  count_done h = sym (rows_end names t count turn h) ∙ v.same

  module _ {r : Option Numeral} (g : r ≡ state_line_at names t) where
    pub count_broken : 0 < length t → r ≡ None → None ≡ state_lines_at names 0 true s
    count_broken l h = sym (rows_bad names t count turn l (sym g ∙ h)) ∙ v.same

    pub count_more : {n : Numeral} → r ≡ Some n → StateLineFits names (length t) r
        → Counting names s (take (length t - n.used) (drop n.used t)) (count + 1) (turn && eqb n.value count)
    count_more {n} h f =
        let k = rw h at f in
        rw rest_is
        record {
          within = omega (arith, v.within, length-drop n.used t);
          same = sym (rows_more names t count turn n.value n.used (sym g ∙ h)) ∙ v.same;
        }

pub ruleset count_laws = (line_ends, line_falls, count_none, count_fits, count_done, count_broken, count_more)

-- names of a line, as many as commas
names_count : (line : Text) → length (tail (fields_of line)) ≡ commas_in line
names_count line = omega (arith, commas_fields line, ap length (fields_some line))

fields_count : (line : Text) → length (fields_of line) ≡ suc (commas_in line)
fields_count line = commas_fields line ∙ add-one (commas_in line)

-- the text's first line, and the lines after it
module _ (text : Text) where
  facts_read : span_of line_feed text < length text
      → facts_from (is_first_line (take (span_of line_feed text) text)) (commas_in (take (span_of line_feed text) text)) (span_of line_feed text)
      (state_lines_at (commas_in (take (span_of line_feed text) text)) 0 true (next_line text))
      ≡ labels_facts text
  unfolding labels_facts state_lines_at labels_layout names_of states_of lines_pass
  facts_read h =
      rw (
        ← first_line_lem text,
        ended_cut text h,
        later_cut text h,
        first_cut text h,
        names_count (take (span_of line_feed text) text),
        fields_count (take (span_of line_feed text) text),
      )
      (go (is_ended (next_line text) && every (state_line (suc (commas_in (take (span_of line_feed text) text)))) (lines_of (next_line text))))
    where
      go : (x : Bool)
          → facts_from (is_first_line (take (span_of line_feed text) text)) (commas_in (take (span_of line_feed text) text)) (span_of line_feed text)
          (cond x (lines (0 + length (lines_of (next_line text))) (in_turn 0 (lines_of (next_line text)))) None)
          ≡ cond x
          (Some (record {
            head = is_first_line (take (span_of line_feed text) text);
            states = length (lines_of (next_line text));
            turn = in_turn 0 (lines_of (next_line text));
            names = commas_in (take (span_of line_feed text) text);
            first = span_of line_feed text;
          }))
          None
      go true = let e : 0 + length (lines_of (next_line text)) ≡ length (lines_of (next_line text)) = omega arith in rw e
      go false = refl

  -- by the answers that the code has
  module _ {end names : ℕ} {found : Option StateLines} (e : end ≡ span_of line_feed text) (h : end < length text) (n : names ≡ commas_in (take end text))
      (q : found ≡ state_lines_at names 0 true (take (length text - (end + 1)) (drop (end + 1) text))) where
    facts_found : (head : Bool) → head ≡ is_first_line (take end text) → facts_from head names end found ≡ labels_facts text
    facts_found head p = rw (rw rest_is at q, p, n, e) (facts_read (omega arith))

    pub facts_none : found ≡ None → None ≡ labels_facts text
    facts_none f = rw f at (facts_found (is_first_line (take end text)) refl)

    pub facts_some : {head : Bool} {s : StateLines} → found ≡ Some s → head ≡ is_first_line (take end text)
        → Some (record { head = head; states = s.count; turn = s.turn; names = names; first = end }) ≡ labels_facts text
    facts_some {head} f p = rw f at (facts_found head p)

-- a text with no line feed
pub facts_bare : (text : Text) → length text ≡ 0 → Some bare ≡ labels_facts text
unfolding labels_facts labels_layout labels_head names_of states_of every in_turn head_d fields_of parts same span_of
facts_bare [] h = rw (ended_none [] (omega arith), later_none [] (omega arith), first_none [] (omega arith))
facts_bare (b ∷ text) h = absurd (omega arith)

pub facts_unended : (text : Text) {end : ℕ} → (length text ≡ 0 → ⊥) → end ≡ span_of line_feed text → length text ≤ end → None ≡ labels_facts text
unfolding labels_facts labels_layout
facts_unended [] n e h = absurd (n refl)
facts_unended (b ∷ text) n e h = rw (ended_none (b ∷ text) (omega arith), eqb-suc-zero (length text))

pub ruleset facts_laws = (facts_none, facts_some, facts_bare, facts_unended)
