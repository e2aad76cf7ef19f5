-- How the parts, lines and fields of a text are cut off its start, by `span_of`. Assumes nothing.
use Rattle.std.specs.Prelude.{◌≡◌, refl, ℕ, ◌+◌, ◌-◌, ◌≤◌, ◌<◌, length, take, drop, eqb}
use Rattle.std.proofs.Common.{sym, ◌∙◌, arith, add-one, drop_of_length-le, length-drop, drop-cons, take_all}
use mathlib.Core.List.{[], ◌∷◌, head_d}
use Rattle.std.proofs.Math.Dec.{eqb-suc-zero}
use Rattle.csl.specs.Text.{Text}
use Rattle.csl.specs.Line.{line_feed, parts, ended_parts, no_remnant, lines_of, is_ended, first_line, later_lines}
use Rattle.texts.specs.Span.{span_of}
use Rattle.texts.specs.Behind.{parts_behind, parts_first}

-- what the part `&s[a..]` holds
pub rest_is : (s : Text) (a : ℕ) → take (length s - a) (drop a s) ≡ drop a s
rest_is s a = take_all (length s - a) (drop a s) (omega (arith, length-drop a s))

-- where the mark stands, and where it does not
pub parts_cut : (mark : ℕ) (s : Text) → span_of mark s < length s
    → parts mark s ≡ take (span_of mark s) s ∷ parts mark (drop (span_of mark s + 1) s)
unfolding parts_behind
parts_cut mark s h = parts_first mark s ∙ rw (add-one, drop-cons s (span_of mark s) 0 h)

pub parts_whole : (mark : ℕ) (s : Text) → length s ≤ span_of mark s → parts mark s ≡ s ∷ []
unfolding parts_behind
parts_whole mark s h = parts_first mark s ∙ rw (drop_of_length-le s h, take_all (span_of mark s) s h)

-- a part more in front
ended_more : (p : Text) (mark : ℕ) (s : Text) → ended_parts (p ∷ parts mark s) ≡ p ∷ ended_parts (parts mark s)
unfolding ended_parts
ended_more p mark s = rw parts_first

remnant_more : (p : Text) (mark : ℕ) (s : Text) → no_remnant (p ∷ parts mark s) ≡ no_remnant (parts mark s)
unfolding no_remnant
remnant_more [] mark s = rw parts_first
remnant_more (b ∷ p) mark s = rw parts_first

pub lines_cut : (t : Text) → span_of line_feed t < length t → lines_of t ≡ take (span_of line_feed t) t ∷ lines_of (drop (span_of line_feed t + 1) t)
unfolding lines_of
lines_cut t h = rw (parts_cut line_feed t h) (ended_more (take (span_of line_feed t) t) line_feed (drop (span_of line_feed t + 1) t))

pub ended_cut : (t : Text) → span_of line_feed t < length t → is_ended t ≡ is_ended (drop (span_of line_feed t + 1) t)
unfolding is_ended
ended_cut t h = rw (parts_cut line_feed t h) (remnant_more (take (span_of line_feed t) t) line_feed (drop (span_of line_feed t + 1) t))

-- no line feed is left
pub lines_none : (t : Text) → length t ≤ span_of line_feed t → lines_of t ≡ []
unfolding lines_of ended_parts
lines_none t h = rw (parts_whole line_feed t h)

pub ended_none : (t : Text) → length t ≤ span_of line_feed t → is_ended t ≡ eqb (length t) 0
unfolding is_ended no_remnant
ended_none t h = rw (parts_whole line_feed t h) (alone t)
  where
    alone : (s : Text) → no_remnant (s ∷ []) ≡ eqb (length s) 0
    alone [] = refl
    alone (b ∷ s) = sym (eqb-suc-zero (length s))

-- the first line, and the lines after it
pub first_cut : (t : Text) → span_of line_feed t < length t → first_line t ≡ take (span_of line_feed t) t
unfolding first_line head_d
first_cut t h = rw (lines_cut t h)

pub later_cut : (t : Text) → span_of line_feed t < length t → later_lines t ≡ lines_of (drop (span_of line_feed t + 1) t)
unfolding later_lines
later_cut t h = rw (lines_cut t h)

pub first_none : (t : Text) → length t ≤ span_of line_feed t → first_line t ≡ []
unfolding first_line head_d
first_none t h = rw (lines_none t h)

pub later_none : (t : Text) → length t ≤ span_of line_feed t → later_lines t ≡ []
unfolding later_lines
later_none t h = rw (lines_none t h)
