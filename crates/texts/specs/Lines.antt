-- A test put to each line of an ended text, line by line. Assumes nothing.
use Rattle.std.specs.Prelude.{◌≡◌, ◌+◌, ◌≤◌, ◌<◌, Bool, ◌&&◌, [], ◌∷◌, drop}
use Rattle.std.proofs.Math.Path.{refl}
use Rattle.std.proofs.Common.{sym, ◌∙◌}
use native.Mathlib.Omega.{arith}
use Rattle.std.proofs.Math.Bool.{true, false, and-false}
use Rattle.std.proofs.Math.ListN.{length}
use borrow.Author.Tests.{ltb-true, ltb-false, eq-eqb, ne_eqb}
use Rattle.csl.specs.Text.{Text, every}
use Rattle.csl.specs.Line.{line_feed, lines_of, is_ended}
use Rattle.texts.specs.Span.{span_of}
use Rattle.texts.specs.Cut.{lines_cut, ended_cut, lines_none, ended_none}
use Rattle.texts.specs.LineAt.{line_at, is_ended_at}

-- the text is ended, and each of its lines passes the test
unfoldable pub lines_pass : (Text → Bool) → Text → Bool
lines_pass p t = is_ended t && every p (lines_of t)

-- the text behind the first line
abbrev pub next_line : Text → Text
next_line t = drop (span_of line_feed t + 1) t

pub lines_are : (t : Text) → is_ended_at t ≡ true → lines_of t ≡ line_at t ∷ lines_of (next_line t)
unfolding is_ended_at line_at
lines_are t h = lines_cut t (ltb-true _ _ h)

module _ (p : Text → Bool) (t : Text) where
  pub pass_more : is_ended_at t ≡ true → p (line_at t) ≡ true → lines_pass p t ≡ lines_pass p (next_line t)
  unfolding lines_pass every is_ended_at
  pass_more h e = rw (ended_cut t (ltb-true _ _ h), lines_are t h, e)

  pub pass_not : 0 < length t → (is_ended_at t && p (line_at t)) ≡ false → lines_pass p t ≡ false
  unfolding lines_pass every is_ended_at
  pass_not l h = go (is_ended_at t) refl h
    where
      go : (x : Bool) → is_ended_at t ≡ x → (x && p (line_at t)) ≡ false → (is_ended t && every p (lines_of t)) ≡ false
      go true e q = rw (lines_are t e, q) (and-false (is_ended t))
      go false e q = rw (ended_none t (ltb-false _ _ e), ne_eqb (length t) 0 (omega arith))

  pub pass_first : 0 < length t → lines_pass p t ≡ true → (is_ended_at t && p (line_at t)) ≡ true
  pass_first l h = go (is_ended_at t && p (line_at t)) refl
    where
      go : (x : Bool) → (is_ended_at t && p (line_at t)) ≡ x → x ≡ true
      go true e = refl
      go false e = sym (pass_not l e) ∙ h

  pub pass_end : length t ≤ 0 → lines_pass p t ≡ true
  unfolding lines_pass every
  pass_end h =
      let n : length t ≤ span_of line_feed t = omega arith in
      rw (ended_none t n, lines_none t n, eq-eqb (length t) 0 (omega arith))

pub lines_end : (t : Text) → length t ≤ 0 → lines_of t ≡ []
lines_end t h = lines_none t (omega arith)
