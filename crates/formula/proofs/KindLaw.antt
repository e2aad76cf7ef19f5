-- The node that a token begins. Assumes nothing.
use mathlib.Core.Path.{◌≡◌, refl}
use Prim.Native.Nat.{ℕ, suc, ◌-◌, ◌<◌}
use native.Mathlib.Omega.{arith}
use mathlib.Core.List.{List, [], tail}
use Rattle.std.specs.Prelude.{Option, None, Some}
use lib.ListN.{length, drop}
use Rattle.csl.specs.Text.{Text}
use Rattle.csl.specs.Line.{space}
use Rattle.csl.specs.Limits.{most_nodes}
use Rattle.csl.specs.Formula as csl
use Rattle.csl.specs.Grammar as grammar
use Rattle.csl.specs.Grammar.{Found, nothing, found, and_then, single, pair, path, head_of, state, truth, name, bang, ampersand, chances, other}
use Rattle.grammar.specs.Left.{Leaves, none_read, left}
use Rattle.grammar.specs.Fixed.{read, read_leaves}
use Rattle.verdicts.specs.Paper.{comparison_of}
use Rattle.verdicts.specs.declared.comparison.Comparison.{Comparison}
use Rattle.verdicts.specs.declared.comparison.Comparison.TheVariants.{Less, AtMost, AtLeast, More}
use Rattle.texts.specs.Behind.{after_part, behind_tail}
use Rattle.texts.specs.Cut.{rest_is}
use Rattle.grammar.specs.Tokens.{tokens, last_behind}
use Rattle.grammar.specs.Chance.{bound_then, BoundRead}
use Rattle.grammar.specs.declared.chance.Bound.{Bound}
use Rattle.grammar.specs.PathStart.{path_start_of, behind_start, start_then, path_by_start}
use Rattle.grammar.specs.declared.path_start.PathStart.{PathStart}
use Rattle.grammar.specs.declared.path_start.PathStart.TheVariants as start
use Rattle.formula.specs.Size.{size_of}
use Rattle.formula.specs.declared.size.Size.{Size}
use Rattle.formula.specs.Operands.{OperandsBefore}
use Rattle.formula.specs.declared.nodes.Path.{Path}
use Rattle.formula.specs.declared.nodes.Path.TheVariants as path
use Rattle.formula.specs.declared.nodes.Kind.{Kind}
use Rattle.formula.specs.declared.nodes.Kind.TheVariants as kind
use Rattle.formula.specs.Listed.{held, path_held, kind_held}
use Rattle.formula.specs.Laying.{nodes_at, nodes_behind, nodes_second, hollow, kind_found, chance_kind, head_kind, top_kind}
use Rattle.formula.specs.Route.{route_kind}

-- how many nodes the second formula has, by what was read of the first
abbrev second_by : Option Size → Text → ℕ
second_by None s = 0
second_by (Some z) s = nodes_at (tokens (drop (length s - z.left) s))

pub second_read : (s : Text) → nodes_second (tokens s) ≡ second_by (size_of (read (tokens s))) s
second_read s = go (read_leaves (tokens s))
  where
    go : {fd : Found} → Leaves (tokens s) fd → nodes_behind fd ≡ second_by (size_of fd) s
    go none_read = refl
    go (left {rest = more} la) = rw (last_behind space s more la)

pub ruleset second_laws = (second_read, rest_is)

held_again : (c : Comparison) → held (comparison_of c) ≡ c
held_again Less = refl
held_again AtMost = refl
held_again AtLeast = refl
held_again More = refl

-- the path formula whose `P` is the node i, by what it begins with; n are the nodes of its second operand
abbrev path_at : ℕ → Option PathStart → List Text → Option Path
path_at i None ts = None
path_at i (Some (start.Until t)) ts = Some (path.Until t (i - 1 - nodes_second (tail (tail ts))) (i - 1))
path_at i (Some start.Next) ts = Some (path.Next (i - 1))
path_at i (Some (start.Between t u)) ts = Some (path.Between t u (i - 1 - nodes_second (tail (tail (tail ts)))) (i - 1))

pub path_kind : (i : ℕ) (c : Comparison) (p : ℕ) (ts : List Text)
    → kind_found i (path hollow (comparison_of c) p ts) ≡ route_kind c p (path_at i (path_start_of ts) ts)
unfolding pair single and_then
path_kind i c p ts = rw path_by_start (go (path_start_of ts))
  where
    less : (n : ℕ) → i - suc n ≡ i - 1 - n
    less n = omega arith

    go : (h : Option PathStart) → kind_found i (start_then h hollow (comparison_of c) p (behind_start h ts)) ≡ route_kind c p (path_at i h ts)
    go None = refl
    go (Some (start.Until t)) = rw (held_again, less)
    go (Some start.Next) = rw held_again
    go (Some (start.Between t u)) = rw (held_again, less)

pub ruleset path_laws = (path_kind, behind_tail)

-- the node of a `P`, by the comparison and the threshold that were read
abbrev bound_kind : ℕ → Option Bound → List Text → Kind
bound_kind i None ts = kind.Always
bound_kind i (Some b) ts = kind_found i (path hollow (comparison_of b.comparison) b.threshold (tail (tail ts)))

pub chance_read : (i : ℕ) (ts : List Text) (b : Option Bound) → BoundRead ts b → chance_kind i ts ≡ bound_kind i b ts
unfolding state
chance_read i ts b h = rw (h (path hollow)) (go b)
  where
    go : (b : Option Bound) → kind_found i (bound_then b (path hollow) (tail (tail ts))) ≡ bound_kind i b ts
    go None = refl
    go (Some b) = refl

-- its operands stand in the row where it does
module _ (i n : ℕ) (h : i < most_nodes) where
  path_below : (c : Comparison) (p : ℕ) (w : csl.Path) → OperandsBefore most_nodes (kind.Chance c p (path_held i n w))
  path_below c p (csl.until t a b) = (omega arith, omega arith)
  path_below c p (csl.next_move a) = omega arith
  path_below c p (csl.between t u a b) = (omega arith, omega arith)

  held_below : (f : csl.Formula) → OperandsBefore most_nodes (kind_held [] i n f)
  held_below csl.always = tt
  held_below (csl.label w) = tt
  held_below (csl.negated a) = omega arith
  held_below (csl.both a b) = (omega arith, omega arith)
  held_below (csl.chance r p w) = path_below (held r) p w

found_below : (i : ℕ) → i < most_nodes → (fd : Found) → OperandsBefore most_nodes (kind_found i fd)
found_below i h nothing = tt
found_below i h (found f rest) = held_below i _ h f

pub top_below : (names : List Text) (i : ℕ) (w : Text) (ts : List Text) → i < most_nodes → OperandsBefore most_nodes (top_kind names i w ts)
top_below names i w ts h = go (head_of w)
  where
    go : (hd : grammar.Head) → OperandsBefore most_nodes (head_kind names i w hd ts)
    go truth = tt
    go name = tt
    go bang = omega arith
    go ampersand = (omega arith, omega arith)
    go chances = found_below i h (state hollow [] chances ts)
    go other = tt
