-- What is read of a text, by the size that was told of it. Assumes nothing.
use mathlib.Core.Path.{◌≡◌, refl, sym}
use Prim.Native.Nat.{ℕ}
use mathlib.Core.Bool.{Bool, true, false, cond, and-eq-true_iff}
use mathlib.Core.List.{List, head_d, []}
use Rattle.std.specs.Prelude.{Option, None, Some}
use Rattle.std.proofs.lemmas.Bool.Decides.{nat_tests}
use borrow.Author.Tests.{leb-true}
use Rattle.csl.specs.Text.{Text}
use Rattle.csl.specs.Limits.{most_nodes}
use Rattle.csl.specs.Line.{line_feed, space, parts}
use Rattle.csl.specs.Formula.{Formula, nodes, levels}
use Rattle.csl.specs.Grammar.{read_formula}
use Rattle.texts.specs.Behind.{parts_first}
use Rattle.formula.specs.Size.{extent_of}
use Rattle.formula.specs.declared.size.Size.{Size}
use Rattle.formula.specs.declared.nodes.Nodes.{Nodes}
use Rattle.formula.specs.declared.reading.Reading.{Reading}
use Rattle.formula.specs.Listed.{empty, stored}
use Rattle.formula.specs.Laying.{laid}
use Rattle.formula.specs.Reading.{few, reading_of}
use Rattle.formula.proofs.TextLaw.{text_spells}
use Rattle.formula.proofs.LaidLaw.{laid_stored}

module _ (names : List Text) (t : Text) where
  -- the nodes that are laid from the tokens of the first line
  abbrev laid_line : ℕ → Nodes
  laid_line n = laid names n (parts space (head_d (parts line_feed t) []))

  -- where they are few, they are those of the formula
  kept : (f : Formula) → read_formula t ≡ Some f → (p : Bool) → few (nodes f) (levels f) ≡ p
      → cond p (stored names f) empty ≡ cond p (laid_line (nodes f)) empty
  unfolding head_d
  kept f e true k =
      rw (parts_first line_feed t)
      (sym (laid_stored names _ f (leb-true (nodes f) most_nodes ((and-eq-true_iff _ _).0 k).0) (text_spells t f e)))
  kept f e false k = refl

  -- so what is read follows from the size
  abbrev read_by : Option Size → Option Reading
  read_by None = None
  read_by (Some z) = Some (record { count = z.nodes; levels = z.levels; nodes = cond (few z.nodes z.levels) (laid_line z.nodes) empty })

  pub reading_sized : reading_of names (read_formula t) ≡ read_by (extent_of (read_formula t))
  unfolding reading_of
  reading_sized = go (read_formula t) refl
    where
      go : (o : Option Formula) → read_formula t ≡ o → reading_of names o ≡ read_by (extent_of o)
      go None e = refl
      go (Some f) e = rw (kept f e (few (nodes f) (levels f)) refl)

pub laid_count : (names : List Text) (n : ℕ) (ts : List Text) → (laid names n ts).count ≡ n
unfolding laid
laid_count names n ts = refl

pub ruleset read_laws = (reading_sized, laid_count, nat_tests)
