-- A text of one line: the line feed is its last byte and its only one. Assumes nothing.
use mathlib.Core.Path.{◌≡◌, refl, sym, ◌∙◌}
use Prim.Native.Nat.{suc, ◌+◌, ◌-◌, ◌≤◌, ◌<◌}
use native.Mathlib.Omega.{arith}
use mathlib.Core.Bool.{Bool, true, false, cond, ◌&&◌, and-false}
use mathlib.Core.List.{[], ◌∷◌, head_d}
use Rattle.std.specs.Prelude.{Option, None, Some}
use Rattle.std.proofs.lemmas.Option.{none-some}
use Rattle.std.proofs.lemmas.Bool.Decides.{nat_tests}
use lib.ListN.{length, take, drop, length-drop, drop_of_length-le}
use lib.Dec.{eqb, ltb}
use borrow.Author.Tests.{ne_eqb, ltb-true, ltb-false, eqb-true, eqb-false}
use Rattle.csl.specs.Text.{Text}
use Rattle.csl.specs.Line.{line_feed, space, parts, ended_parts, no_remnant, lines_of, is_ended, first_line}
use Rattle.csl.specs.Formula.{Formula}
use Rattle.csl.specs.Grammar.{Found, nothing, found, whole, tokens_of, read_formula, state, head_of}
use Rattle.grammar.specs.Fixed.{read, read_next}
use Rattle.texts.specs.Span.{span_of}
use Rattle.texts.specs.Cut.{lines_cut, ended_cut, lines_none, ended_none, first_cut}
use Rattle.texts.specs.Behind.{behind_first, parts_first}
use Rattle.grammar.specs.Tokens.{tokens, bytes_of}
use Rattle.formula.specs.Size.{size_of, extent_of}
use Rattle.formula.specs.declared.size.Size.{Size}

-- one line, and its line feed
abbrev one_line : Text → Bool
one_line t = is_ended t && eqb (length (lines_of t)) 1

-- of what comes behind a first line
more_lines : (t : Text) → 1 ≤ length t → (is_ended t && eqb (suc (length (lines_of t))) 1) ≡ false
more_lines t h = go (ltb (span_of line_feed t) (length t)) refl
  where
    go : (p : Bool) → ltb (span_of line_feed t) (length t) ≡ p → (is_ended t && eqb (suc (length (lines_of t))) 1) ≡ false
    go true e =
        rw (lines_cut t (ltb-true _ _ e), ne_eqb (suc (suc (length (lines_of (drop (span_of line_feed t + 1) t))))) 1 (λ q. omega arith))
        (and-false (is_ended t))
    go false e = rw (ended_none t (ltb-false _ _ e), ne_eqb (length t) 0 (λ q. omega arith))

line_other : (t : Text) → (length t - span_of line_feed t ≡ 1 → ⊥) → one_line t ≡ false
line_other t h = go (ltb (span_of line_feed t) (length t)) refl
  where
    go : (p : Bool) → ltb (span_of line_feed t) (length t) ≡ p → one_line t ≡ false
    go true e =
        let l : span_of line_feed t < length t = ltb-true _ _ e in
        let d = length-drop (span_of line_feed t + 1) t in
        let k : 1 ≤ length (drop (span_of line_feed t + 1) t) = omega arith in
        rw (lines_cut t l, ended_cut t l) (more_lines (drop (span_of line_feed t + 1) t) k)
    go false e = rw (lines_none t (ltb-false _ _ e)) (and-false (is_ended t))

line_one : (t : Text) → length t - span_of line_feed t ≡ 1 → (one_line t ≡ true) × (first_line t ≡ take (span_of line_feed t) t)
unfolding lines_of is_ended parts ended_parts no_remnant
line_one t h =
    let l : span_of line_feed t < length t = omega arith in
    let e : length t ≤ span_of line_feed t + 1 = omega arith in
    (rw (lines_cut t l, ended_cut t l, drop_of_length-le t e), first_cut t l)

-- what a formula text spells is what is read of its first line, where nothing is left behind it
module _ (t : Text) where
  line : Text
  line = take (span_of line_feed t) t

  read_other : (length t - span_of line_feed t ≡ 1 → ⊥) → read_formula t ≡ None
  unfolding read_formula
  read_other h = rw (line_other t h)

  read_one : length t - span_of line_feed t ≡ 1 → read_formula t ≡ whole (read (parts space line))
  unfolding read_formula tokens_of read line
  read_one h = let p = line_one t h in rw (p.0, p.1)

  alone : (f : Formula) (fd : Found) → whole fd ≡ Some f → fd ≡ found f []
  unfolding whole
  alone f nothing q = absurd (none-some f q)
  alone f (found g []) q = cc
  alone f (found g (w ∷ ts)) q = absurd (none-some f q)

  pub text_spells : (f : Formula) → read_formula t ≡ Some f → read (parts space (take (span_of line_feed t) t)) ≡ found f []
  unfolding line
  text_spells f e = go (eqb (length t - span_of line_feed t) 1) refl
    where
      go : (p : Bool) → eqb (length t - span_of line_feed t) 1 ≡ p → read (parts space line) ≡ found f []
      go true q = alone f _ (sym (read_one (eqb-true _ _ q)) ∙ e)
      go false q = absurd (none-some f (sym (read_other (eqb-false _ _ q)) ∙ e))

-- its size, where it is one line: that of the state formula at its start, where nothing is left behind that
abbrev whole_sized : Option Size → Option Size
whole_sized None = None
whole_sized (Some z) = cond (eqb z.left 0) (Some z) None

pub text_sized : (t : Text) → extent_of (read_formula t)
    ≡ cond (eqb (length t - span_of line_feed t) 1) (whole_sized (size_of (read (parts space (take (span_of line_feed t) t))))) None
unfolding line whole bytes_of
text_sized t = go (eqb (length t - span_of line_feed t) 1) refl
  where
    one : (fd : Found) → extent_of (whole fd) ≡ whole_sized (size_of fd)
    one nothing = refl
    one (found f []) = refl
    one (found f (w ∷ ts)) = rw (ne_eqb (suc (length w + bytes_of ts)) 0 (λ e. omega arith))

    go : (p : Bool) → eqb (length t - span_of line_feed t) 1 ≡ p
        → extent_of (read_formula t) ≡ cond p (whole_sized (size_of (read (parts space (line t))))) None
    go true q = rw (read_one t (eqb-true _ _ q)) (one (read (parts space (line t))))
    go false q = rw (read_other t (eqb-false _ _ q))

-- the state formula at the start of a line is read by its first token
pub line_sized : (t : Text) → size_of (read (parts space t))
    ≡ size_of (state read (head_d (parts space t) []) (head_of (head_d (parts space t) [])) (tokens (behind_first space t)))
line_sized t = rw (read_next, parts_first space t)

pub ruleset text_laws = (text_sized, nat_tests)
