-- The parts that a byte sets apart in a text, put together again. Assumes nothing.
use Rattle.std.specs.Prelude.{◌≡◌, Bool, not, ◌&&◌, ℕ, ◌≤◌}
use Rattle.std.proofs.Math.Path.{refl, ap}
use Rattle.std.proofs.Common.{sym, ◌∙◌}
use Rattle.std.proofs.Math.Bool.{true, false, cond, and-eq-true_iff}
use Rattle.std.proofs.lemmas.Bool.{false≢true}
use mathlib.Core.List.{List, [], ◌∷◌, ◌++◌}
use native.Mathlib.Omega.{arith}
use Rattle.std.proofs.Math.ListN.{length}
use Rattle.std.proofs.Math.Dec.{eqb}
use borrow.Author.Tests.{eqb-true, eq-eqb}
use Rattle.csl.specs.Text.{Text, every}
use Rattle.csl.specs.Line.{line_feed, ahead, parts, ended_parts, no_remnant, lines_of, is_ended}

-- parts with a byte between each and the next
unfoldable pub joined : ℕ → List Text → Text
joined mark [] = []
joined mark (p ∷ []) = p
joined mark (p ∷ q ∷ ps) = p ++ (mark ∷ joined mark (q ∷ ps))

-- none of its bytes is `mark`
abbrev pub free : ℕ → Text → Bool
free mark s = every (λ b. not (eqb b mark)) s

ahead_some : (b : ℕ) (ps : List Text) → 1 ≤ length (ahead b ps)
unfolding ahead
ahead_some b [] = omega arith
ahead_some b (p ∷ ps) = omega arith

module _ (mark : ℕ) where
  first_free : (p : Text) (ps : List Text) → every (free mark) (p ∷ ps) ≡ true → free mark p ≡ true
  unfolding every
  first_free p ps h = ((and-eq-true_iff (free mark p) (every (free mark) ps)).0 h).0

  later_free : (p : Text) (ps : List Text) → every (free mark) (p ∷ ps) ≡ true → every (free mark) ps ≡ true
  unfolding every
  later_free p ps h = ((and-eq-true_iff (free mark p) (every (free mark) ps)).0 h).1

  pub parts_some : (t : Text) → 1 ≤ length (parts mark t)
  unfolding parts
  parts_some [] = omega arith
  parts_some (b ∷ t) = go (eqb b mark) (parts mark t)
    where
      go : (x : Bool) (ps : List Text) → 1 ≤ length (cond x ([] ∷ ps) (ahead b ps))
      go true ps = omega arith
      go false ps = ahead_some b ps

  -- a text is its parts, put together
  joined_ahead : (b : ℕ) (ps : List Text) → 1 ≤ length ps → joined mark (ahead b ps) ≡ b ∷ joined mark ps
  unfolding joined ahead
  joined_ahead b [] l = absurd (omega arith)
  joined_ahead b (p ∷ []) l = refl
  joined_ahead b (p ∷ q ∷ ps) l = refl

  pub joined_more : (p : Text) (ps : List Text) → 1 ≤ length ps → joined mark (p ∷ ps) ≡ p ++ (mark ∷ joined mark ps)
  unfolding joined
  joined_more p [] l = absurd (omega arith)
  joined_more p (q ∷ ps) l = refl

  pub joined_parts : (t : Text) → joined mark (parts mark t) ≡ t
  unfolding parts joined
  joined_parts [] = refl
  joined_parts (b ∷ t) = go (eqb b mark) refl (joined_parts t)
    where
      go : (x : Bool) → eqb b mark ≡ x → joined mark (parts mark t) ≡ t → joined mark (cond x ([] ∷ parts mark t) (ahead b (parts mark t))) ≡ b ∷ t
      go true e h = joined_more [] (parts mark t) (parts_some t) ∙ rw (h, eqb-true b mark e) refl
      go false e h = joined_ahead b (parts mark t) (parts_some t) ∙ rw h refl

  -- and parts that have no such byte are the parts of what is put together of them
  pub before_mark : (w rest : Text) → free mark w ≡ true → parts mark (w ++ (mark ∷ rest)) ≡ w ∷ parts mark rest
  unfolding every parts ahead
  before_mark [] rest h = rw (eq-eqb mark mark refl) refl
  before_mark (b ∷ w) rest h = go (eqb b mark) h (λ k. before_mark w rest k)
    where
      go : (x : Bool) → (not x && free mark w) ≡ true → (free mark w ≡ true → parts mark (w ++ (mark ∷ rest)) ≡ w ∷ parts mark rest)
          → cond x ([] ∷ parts mark (w ++ (mark ∷ rest))) (ahead b (parts mark (w ++ (mark ∷ rest)))) ≡ (b ∷ w) ∷ parts mark rest
      go true k f = absurd (false≢true k)
      go false k f = ap (ahead b) (f k)

  pub without_mark : (w : Text) → free mark w ≡ true → parts mark w ≡ w ∷ []
  unfolding every parts ahead
  without_mark [] h = refl
  without_mark (b ∷ w) h = go (eqb b mark) h (λ k. without_mark w k)
    where
      go : (x : Bool) → (not x && free mark w) ≡ true → (free mark w ≡ true → parts mark w ≡ w ∷ [])
          → cond x ([] ∷ parts mark w) (ahead b (parts mark w)) ≡ (b ∷ w) ∷ []
      go true k f = absurd (false≢true k)
      go false k f = ap (ahead b) (f k)

  pub parts_joined : (p : Text) (ps : List Text) → every (free mark) (p ∷ ps) ≡ true → parts mark (joined mark (p ∷ ps)) ≡ p ∷ ps
  unfolding joined
  parts_joined p [] h = without_mark p (first_free p [] h)
  parts_joined p (q ∷ ps) h =
      before_mark p (joined mark (q ∷ ps)) (first_free p (q ∷ ps) h)
      ∙ ap (λ (l : List Text). p ∷ l) (parts_joined q ps (later_free p (q ∷ ps) h))

-- the lines of a text, each ended
abbrev pub ended : List Text → List Text
ended ls = ls ++ ([] ∷ [])

ended_ended : (ls : List Text) → ended_parts (ended ls) ≡ ls
unfolding ended_parts
ended_ended [] = refl
ended_ended (l ∷ []) = refl
ended_ended (l ∷ m ∷ ls) = ap (λ (k : List Text). l ∷ k) (ended_ended (m ∷ ls))

no_remnant_lem : (ls : List Text) → no_remnant (ended ls) ≡ true
unfolding no_remnant
no_remnant_lem [] = refl
no_remnant_lem (l ∷ []) = refl
no_remnant_lem (l ∷ m ∷ ls) = no_remnant_lem (m ∷ ls)

all_ended : (ps : List Text) → 1 ≤ length ps → no_remnant ps ≡ true → ps ≡ ended (ended_parts ps)
unfolding no_remnant ended_parts
all_ended [] l h = absurd (omega arith)
all_ended ([] ∷ []) l h = refl
all_ended ((b ∷ p) ∷ []) l h = absurd (false≢true h)
all_ended (p ∷ q ∷ ps) l h = ap (λ (k : List Text). p ∷ k) (all_ended (q ∷ ps) (omega arith) h)

-- a text whose last line feed is there is its lines, each ended
pub lines_written : (t : Text) → is_ended t ≡ true → joined line_feed (ended (lines_of t)) ≡ t
unfolding is_ended lines_of
lines_written t h =
    ap (joined line_feed) (sym (all_ended (parts line_feed t) (parts_some line_feed t) h)) ∙ joined_parts line_feed t

-- and lines without line feeds are read back
module _ (l : Text) (ls : List Text) (h : every (free line_feed) (l ∷ ended ls) ≡ true) where
  pub lines_read : lines_of (joined line_feed (ended (l ∷ ls))) ≡ l ∷ ls
  unfolding lines_of
  lines_read = ap ended_parts (parts_joined line_feed l (ended ls) h) ∙ ended_ended (l ∷ ls)

  pub lines_ended : is_ended (joined line_feed (ended (l ∷ ls))) ≡ true
  unfolding is_ended
  lines_ended = ap no_remnant (parts_joined line_feed l (ended ls) h) ∙ no_remnant_lem (l ∷ ls)
