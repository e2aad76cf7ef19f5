-- What is asked of a node and of its operands, and what a call leaves. Assumes nothing.
use mathlib.Core.Path.{◌≡◌}
use mathlib.Core.List.{List}
use Prim.Native.Nat.{ℕ, suc, ◌+◌, ◌*◌, ◌≤◌, ◌<◌}
use native.Mathlib.Omega.{arith}
use native.Mathlib.Nat.{mul-le-mul_right}
use lib.ListN.{length}
use Rattle.csl.specs.Text.{Text}
use Rattle.csl.specs.Formula.{Formula, levels}
use Rattle.csl.specs.Chain.{Chain}
use Rattle.numbers.specs.Filled.{at}
use Rattle.incoming_moves.specs.Shown.{IndexShows, index_kept}
use Rattle.vectors.specs.Places.{owns_from, marks_from, EndsStored}
use Rattle.vectors.specs.Prepared.{Prepared}
use Rattle.vectors.specs.Owns.{Owns, owns_kept}
use Rattle.formula.specs.Nodes.{kind_at}
use Rattle.formula.specs.FormulaAt.{formula_at, formula_over, at_kind}
use Rattle.formula.specs.declared.nodes.Kind.{Kind}
use Rattle.decide.specs.Asked.{Marked, DecideAsked, formula_of, Decides}
use Rattle.decide.specs.Rows.{rows_for}

-- what a call leaves: the node's report, if it was asked
abbrev pub Leaves : (mv ix l l' marks marks' : List ℕ) (nodes : List Kind) (node limit n q r : ℕ) → Type 0
Leaves mv ix l l' marks marks' nodes node limit n q r =
    (a : DecideAsked mv ix l marks nodes node limit n q) → Decides a.c (formula_of a) n l l' marks marks' r

-- the words of the labels' marks stay
pub marked_kept : (c : Chain) (names : List Text) {l l' : List ℕ} {n : ℕ} {f g : ℕ → ℕ} → Marked c names l n → EndsStored f g n l l'
    → Marked c names l' n
marked_kept c names {n = n} m b i h s k = rw (b.after (marks_from n + s) (omega arith)) (m i h s k)

pub still_owns : {c : Chain} {l l' : List ℕ} {n : ℕ} {f g : ℕ → ℕ} → Owns c l n → EndsStored f g n l l' → Owns c l' n
still_owns o b = owns_kept o b.after

pub still_index : {c : Chain} {ix l l' : List ℕ} {n : ℕ} {f g : ℕ → ℕ} → IndexShows c ix l (owns_from n) n → EndsStored f g n l l'
    → IndexShows c ix l' (owns_from n) n
still_index {n = n} i b = index_kept i (λ t h. b.after (owns_from n + t) (omega arith))

module _ {mv ix l marks : List ℕ} {nodes : List Kind} {node limit n q : ℕ} (a : DecideAsked mv ix l marks nodes node (suc limit) n q) where
  -- so many rows of those that the formula takes
  pub room_for : (k : ℕ) → k ≤ rows_for (formula_of a) → k * n ≤ length marks
  room_for k h = omega (arith, a.room, mul-le-mul_right n h)

  -- the formula of an operand
  abbrev pub under : ℕ → Formula
  under x = formula_at a.names limit nodes x

  -- an operand is asked, with a level less, of other words and marks
  abbrev pub operand : (x : ℕ) (l' m : List ℕ) → x < node → Prepared mv l' n q → Owns a.c l' n → (IndexShows a.c ix l (owns_from n) n → IndexShows a.c ix l' (owns_from n) n) → Marked a.c a.names l' n → levels (under x) ≤ limit
      → rows_for (under x) * n ≤ length m → ((k : ℕ) → n ≤ k → at m k ≡ 0) → DecideAsked mv ix l' m nodes x limit n q
  operand x l' m h prepared owns index marked deep room clear =
      record {
        c = a.c;
        names = a.names;
        few = a.few;
        shows = a.shows;
        prepared = prepared;
        owns = owns;
        few_words = a.few_words;
        index = λ k i e. index (a.index k (omega arith) e);
        marked = marked;
        inside = omega (arith, a.inside);
        fits = λ k i. a.fits k (omega arith);
        deep = deep;
        room = room;
        clear = clear;
      }

  -- the node's formula, by its kind
  pub of_kind : (k : Kind) → kind_at nodes node ≡ k → formula_of a ≡ formula_over a.names under k
  of_kind k e = at_kind a.names limit nodes node k e
