-- The moves text of a transition file: the first line of a moves text, and then the file's lines with commas for spaces. Assumes nothing.
use Rattle.std.specs.Prelude.{◌≡◌, Bool, true, ◌&&◌}
use Rattle.std.proofs.Math.Path.{refl, ap}
use Rattle.std.proofs.Common.{sym, ◌∙◌}
use Rattle.std.proofs.Math.Bool.{and-eq-true_iff}
use mathlib.Core.List.{List, [], ◌∷◌, ◌++◌, map, head_d, tail}
use Rattle.csl.specs.Text.{Text, bytes, same, every}
use Rattle.csl.specs.Line.{line_feed, lines_of, first_line, later_lines, is_ended}
use Rattle.csl.specs.Moves.{Move, moves_head, move_line, moves_layout, move_of, moves_of}
use Rattle.csl.specs.Copy.{moves_text}
use Rattle.csl.specs.Import.{Files, numbers_line, transitions_layout, transition_of, transitions_of, ended_text, imported_moves}
use Rattle.same_chain.specs.Joined.{free}
use Rattle.same_chain.specs.MovesText.{text_written}
use Rattle.imported.specs.Exchanged.{exchanged, lines_exchanged, ended_exchanged, line_exchanged, move_exchanged}
use Rattle.imported.specs.Written.{line_more, ended_behind, lines_back, later_free}

-- the lines in `rest`, behind the first line of a moves text
abbrev pub moves_from : Text → Text
moves_from rest = bytes "from,to,rate" ++ (line_feed ∷ exchanged rest)

head_free : free line_feed (bytes "from,to,rate") ≡ true
unfolding every
head_free = refl

every_same : (p q : Text → Bool) (f : Text → Text) → ((l : Text) → p (f l) ≡ q l) → (ls : List Text) → every p (map f ls) ≡ every q ls
unfolding every
every_same p q f h [] = refl
every_same p q f h (l ∷ ls) = rw (h l, every_same p q f h ls) refl

map_same : (f : Text → Text) (g h : Text → Move) → ((l : Text) → g (f l) ≡ h l) → (ls : List Text) → map g (map f ls) ≡ map h ls
map_same f g h e [] = refl
map_same f g h e (l ∷ ls) = both (g (f l)) (h l) _ _ (e l) (map_same f g h e ls)
  where
    both : (a b : Move) (l k : List Move) → a ≡ b → l ≡ k → ◌≡◌ {A = List Move} (a ∷ l) (b ∷ k)
    both a b l k h i = rw (h, i) refl

module _ (rest : Text) where
  lines_from : lines_of (moves_from rest) ≡ bytes "from,to,rate" ∷ map exchanged (lines_of rest)
  lines_from = line_more (bytes "from,to,rate") (exchanged rest) head_free ∙ ap (λ (x : List Text). bytes "from,to,rate" ∷ x) (lines_exchanged rest)

  pub head_from : moves_head (moves_from rest) ≡ true
  unfolding moves_head first_line same head_d
  head_from = rw lines_from refl

  pub moves_from_lem : moves_of (moves_from rest) ≡ map transition_of (lines_of rest)
  unfolding moves_of later_lines
  moves_from_lem = ap (λ (x : List Text). map move_of (tail x)) lines_from ∙ map_same exchanged move_of transition_of move_exchanged (lines_of rest)

  pub layout_from : moves_layout (moves_from rest) ≡ (is_ended rest && every (numbers_line 3) (lines_of rest))
  unfolding moves_layout later_lines
  layout_from =
      rw (
        lines_from,
        ended_behind (bytes "from,to,rate") (exchanged rest) head_free,
        ended_exchanged rest,
        every_same move_line (numbers_line 3) exchanged line_exchanged (lines_of rest),
      ) refl

  -- where the lines are right, it is what is written of their transitions
  pub text_from : (is_ended rest && every (numbers_line 3) (lines_of rest)) ≡ true → moves_text (map transition_of (lines_of rest)) ≡ moves_from rest
  text_from h = ap moves_text (sym moves_from_lem) ∙ text_written (moves_from rest) (layout_from ∙ h) head_from

-- the moves text of a file whose layout is right has its layout right
module _ (f : Files) (right : transitions_layout f.transitions ≡ true) where
  abbrev lines : List Text
  lines = later_lines f.transitions

  lines_right : every (numbers_line 3) lines ≡ true
  unfolding transitions_layout
  lines_right =
      ((and-eq-true_iff (is_ended f.transitions && numbers_line 2 (first_line f.transitions)) (every (numbers_line 3) lines)).0 right).1

  whole : (is_ended (ended_text lines) && every (numbers_line 3) (lines_of (ended_text lines))) ≡ true
  whole = let k = lines_back lines (later_free f.transitions) in rw (k.0, k.1) lines_right

  imported_from : imported_moves f ≡ moves_from (ended_text lines)
  unfolding imported_moves transitions_of
  imported_from = ap (λ (l : List Text). moves_text (map transition_of l)) (sym (lines_back lines (later_free f.transitions)).0) ∙ text_from (ended_text lines) whole

  pub imported_layout : moves_layout (imported_moves f) ≡ true
  imported_layout = ap moves_layout imported_from ∙ layout_from (ended_text lines) ∙ whole
