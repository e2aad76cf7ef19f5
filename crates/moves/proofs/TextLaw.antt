-- The facts of a moves text, from its first line and the facts of the others. Assumes nothing.
use mathlib.Core.Path.{◌≡◌, ◌∙◌}
use Prim.Native.Nat.{ℕ, ◌+◌, ◌-◌, ◌≤◌, ◌<◌}
use native.Mathlib.Omega.{arith}
use mathlib.Core.Bool.{Bool, false}
use lib.ListN.{length, take, drop}
use borrow.Author.Tests.{ne_eqb}
use Rattle.csl.specs.Text.{Text, bytes, same}
use Rattle.csl.specs.Line.{line_feed}
use Rattle.csl.specs.Moves.{moves_head, moves_layout, moves_of}
use Rattle.texts.specs.Span.{span_of}
use Rattle.texts.specs.Cut.{rest_is, ended_cut, ended_none, first_cut, first_none, later_cut, later_none}
use Rattle.texts.specs.Lines.{lines_pass, lines_end}
use Rattle.moves.specs.Facts.{lines_facts, moves_facts}
use Rattle.moves.specs.declared.facts.MovesFacts.{MovesFacts}
use Rattle.std.specs.Prelude.{Option, None, nat_eq}
use Rattle.std.specs.Cmp.Lexicographic.{pointwise}
use Rattle.texts.proofs.Same.{equal_is}

module _ (n : ℕ) (text : Text) where
  -- the empty text, which has no line
  pub facts_empty : {r : Option MovesFacts} → length text ≡ 0 → r ≡ lines_facts n false text → r ≡ moves_facts n text
  unfolding lines_facts moves_facts moves_layout moves_head moves_of lines_pass same
  facts_empty h g =
      g ∙ rw (lines_end text (omega arith), later_none text (omega arith), first_none text (omega arith))

  module _ {end : ℕ} (e : end ≡ span_of line_feed text) where
    -- no line feed
    pub facts_unended : (length text ≡ 0 → ⊥) → length text ≤ end → None ≡ moves_facts n text
    unfolding moves_facts moves_layout
    facts_unended d h = rw (ended_none text (omega arith), ne_eqb (length text) 0 d)

    -- a first line, and those behind it
    pub facts_read : end < length text → {head : Bool} → head ≡ pointwise nat_eq (take end text) (bytes "from,to,rate") → {r : Option MovesFacts}
        → r ≡ lines_facts n head (take (length text - (end + 1)) (drop (end + 1) text)) → r ≡ moves_facts n text
    unfolding lines_facts moves_facts moves_layout moves_head moves_of lines_pass
    facts_read h p g =
        let l : span_of line_feed text < length text = omega arith in
        g ∙ rw (rest_is, p, equal_is (take end text) (bytes "from,to,rate"), e, ended_cut text l, later_cut text l, first_cut text l)

pub ruleset text_laws = (facts_empty, facts_unended, facts_read)
