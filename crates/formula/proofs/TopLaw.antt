-- What stands behind `P`: either csl reads nothing there, whatever reads the operands, or it reads a comparison, a threshold and what a path
-- formula begins with, and the operands behind them. Assumes nothing.
use mathlib.Core.Path.{◌≡◌, refl}
use Prim.Native.Nat.{ℕ}
use mathlib.Core.List.{List, [], head_d, tail}
use Rattle.std.specs.Prelude.{Option, None, Some}
use Rattle.csl.specs.Text.{Text}
use Rattle.csl.specs.Formula.{Comparison}
use Rattle.csl.specs.Grammar.{nothing, Reader, comparison_of, number_of, chances, state}
use Rattle.formula.specs.Laying.{behind_two}
use Rattle.grammar.specs.Then.{comparison_then, number_then}
use Rattle.grammar.specs.PathStart.{path_start_of, behind_start, start_then, path_by_start}
use Rattle.grammar.specs.declared.path_start.PathStart.{PathStart}

pub data ChanceAt (ts : List Text) : Type 0 where
  broken : ((r : Reader) (w : Text) → state r w chances ts ≡ nothing) → ChanceAt ts
  bounded : (c : Comparison) (p : ℕ) (h : Option PathStart)
      → ((r : Reader) (w : Text) → state r w chances ts ≡ start_then h r c p (behind_start h (behind_two ts))) → ChanceAt ts

pub chance_at : (ts : List Text) → ChanceAt ts
unfolding state
chance_at ts = go (comparison_of (head_d ts [])) refl (number_of (head_d (tail ts) [])) refl
  where
    go : (o : Option Comparison) → comparison_of (head_d ts []) ≡ o → (m : Option ℕ) → number_of (head_d (tail ts) []) ≡ m → ChanceAt ts
    go None a m b = broken λ r w. rw (comparison_then, a)
    go (Some c) a None b = broken λ r w. rw (comparison_then, a, number_then, b)
    go (Some c) a (Some p) b =
        bounded c p (path_start_of (behind_two ts)) λ r w. rw (comparison_then, a, number_then, b) (path_by_start r c p (behind_two ts))
