-- A word, by its length and its letters. Assumes nothing.
use Rattle.std.specs.Prelude.{◌≡◌, refl, ◌≤◌, Bool, true, false, ◌&&◌, length, leb}
use Rattle.std.proofs.Common.{sym, ◌∙◌}
use Rattle.std.proofs.Math.Bool.{and-true}
use Rattle.std.specs.List.{list_all}
use borrow.Author.Tests.{le-leb}
use Rattle.csl.specs.Text.{Text, every}
use Rattle.csl.specs.Labels.{is_letter, is_word}
use Rattle.texts.proofs.Same.{every_is}

module _ (w : Text) (r : Bool) where
  pub word_letters : 1 ≤ length w → length w ≤ 12 → r ≡ list_all is_letter w → r ≡ is_word w
  unfolding is_word
  word_letters l m e = rw (every_is is_letter w, le-leb 1 (length w) l, le-leb (length w) 12 m, and-true (list_all is_letter w), and-true (list_all is_letter w)) e

  pub word_sized : r ≡ false → r ≡ (leb 1 (length w) && leb (length w) 12) → r ≡ is_word w
  unfolding is_word
  word_sized f e = f ∙ go (every is_letter w) (leb 1 (length w)) (leb (length w) 12) (sym e ∙ f)
    where
      go : (x y z : Bool) → (y && z) ≡ false → false ≡ (x && y && z)
      go true true true h = sym h
      go true true false h = refl
      go true false z h = refl
      go false y z h = refl

pub ruleset word_laws = (word_letters, word_sized)
