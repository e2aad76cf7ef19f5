-- The sizes of what csl's reader finds: of a state formula by its first token, over one operand and over two, and of a path formula by what it
-- begins with. Assumes nothing.
use mathlib.Core.Path.{◌≡◌, refl, sym, ◌∙◌, ap}
use Prim.Native.Nat.{ℕ, ◌+◌, ◌-◌, ◌≤◌, max}
use native.Mathlib.Omega.{arith}
use mathlib.Core.List.{List, [], ◌∷◌, head_d, tail}
use Rattle.std.specs.Prelude.{Option, None, Some}
use lib.ListN.{length, drop}
use Rattle.csl.specs.Text.{Text}
use Rattle.csl.specs.Line.{space}
use Rattle.csl.specs.Formula.{Formula, negated, both, chance, until, next_move, between, nodes, nodes_in, levels, levels_in, Comparison}
use Rattle.csl.specs.Grammar.{Found, nothing, found, and_then, single, pair, path, head_of, chances, state}
use Rattle.grammar.specs.Left.{Leaves, none_read, left}
use Rattle.grammar.specs.Fixed.{read, read_next, read_leaves}
use Rattle.grammar.specs.Tokens.{tokens, bytes_of, bytes_behind, last_behind}
use Rattle.grammar.specs.Chance.{bound_then, BoundRead}
use Rattle.grammar.specs.declared.chance.Bound.{Bound}
use Rattle.verdicts.specs.Paper.{comparison_of}
use Rattle.grammar.specs.PathStart.{path_start_of, behind_start, start_then, path_by_start}
use Rattle.grammar.specs.declared.path_start.PathStart.{PathStart}
use Rattle.grammar.specs.declared.path_start.PathStart.TheVariants.{Until, Next, Between}
use Rattle.texts.specs.Span.{span_of}
use Rattle.texts.specs.Behind.{parts_behind, after_part, behind_tail, behind_length, behind_shorter, after_within}
use Rattle.texts.specs.Cut.{rest_is}
use Rattle.formula.specs.Size.{size_of, SizeFits}
use Rattle.formula.specs.declared.size.Size.{Size}

-- a node over one operand, and over two, the second of which is read where the first leaves off
abbrev over_one : Option Size → Option Size
over_one None = None
over_one (Some z) = Some (record { left = z.left; nodes = 1 + z.nodes; levels = 1 + z.levels })

abbrev over_both : Size → Option Size → Option Size
over_both z None = None
over_both z (Some y) = Some (record { left = y.left; nodes = 1 + (z.nodes + y.nodes); levels = 1 + max z.levels y.levels })

abbrev over_two : Option Size → (ℕ → Option Size) → Option Size
over_two None second = None
over_two (Some z) second = over_both z (second z.left)

-- whatever counts as `!` over its operand, or as `&` over its two
module _ (make : Formula → Formula) (counted : (a : Formula) → (nodes (make a) ≡ 1 + nodes a) × (levels (make a) ≡ 1 + levels a)) where
  one_sized : (ts : List Text) → size_of (single read make ts) ≡ over_one (size_of (read ts))
  unfolding single and_then
  one_sized ts = go (read ts)
    where
      go : (fd : Found) → size_of (and_then fd λ a rest. found (make a) rest) ≡ over_one (size_of fd)
      go nothing = refl
      go (found a rest) = rw ((counted a).0, (counted a).1)

-- two operands, the first of which was found
abbrev over_found : Found → Option Size
over_found nothing = None
over_found (found a more) = over_both (record { left = bytes_of more; nodes = nodes a; levels = levels a }) (size_of (read more))

module _ (make : Formula → Formula → Formula)
    (counted : (a b : Formula) → (nodes (make a b) ≡ 1 + (nodes a + nodes b)) × (levels (make a b) ≡ 1 + max (levels a) (levels b))) where
  two_sized : (ts : List Text) → size_of (pair read make ts) ≡ over_found (read ts)
  unfolding pair and_then
  two_sized ts = go (read ts)
    where
      second : (a : Formula) (more : List Text) (fd : Found) → size_of (and_then fd λ b rest. found (make a b) rest)
          ≡ over_both (record { left = bytes_of more; nodes = nodes a; levels = levels a }) (size_of fd)
      second a more nothing = refl
      second a more (found b rest) = rw ((counted a b).0, (counted a b).1)

      go : (fd : Found) → size_of (and_then fd λ a more. and_then (read more) λ b rest. found (make a b) rest) ≡ over_found fd
      go nothing = refl
      go (found a more) = second a more (read more)

pub single_sized : (ts : List Text) → size_of (single read negated ts) ≡ over_one (size_of (read ts))
unfolding nodes levels
single_sized = one_sized negated (λ a. (refl, refl))

both_sized : (ts : List Text) → size_of (pair read both ts) ≡ over_found (read ts)
unfolding nodes levels
both_sized = two_sized both (λ a b. (refl, refl))

pub pair_sized : (s : Text) → size_of (pair read both (tokens s)) ≡ over_two (size_of (read (tokens s))) (λ l. size_of (read (tokens (drop (length s - l) s))))
pair_sized s = both_sized (tokens s) ∙ go (read_leaves (tokens s))
  where
    go : {fd : Found} → Leaves (tokens s) fd → over_found fd ≡ over_two (size_of fd) (λ l. size_of (read (tokens (drop (length s - l) s))))
    go none_read = refl
    go (left {rest = more} la) = rw (last_behind space s more la)

-- by what a path formula begins with
abbrev start_sized : Option PathStart → List Text → Option Size
start_sized None ts = None
start_sized (Some (Until t)) ts = size_of (pair read both (tail (tail ts)))
start_sized (Some Next) ts = size_of (single read negated (tail ts))
start_sized (Some (Between t u)) ts = size_of (pair read both (tail (tail (tail ts))))

pub path_sized : (c : Comparison) (p : ℕ) (ts : List Text) → size_of (path read c p ts) ≡ start_sized (path_start_of ts) ts
unfolding nodes nodes_in levels levels_in
path_sized c p ts = rw path_by_start (go (path_start_of ts))
  where
    go : (h : Option PathStart) → size_of (start_then h read c p (behind_start h ts)) ≡ start_sized h ts
    go None = refl
    go (Some (Until t)) = two_sized (λ a b. chance c p (until t a b)) (λ a b. (refl, refl)) (tail (tail ts)) ∙ sym (both_sized (tail (tail ts)))
    go (Some Next) = one_sized (λ a. chance c p (next_move a)) (λ a. (refl, refl)) (tail ts) ∙ sym (single_sized (tail ts))
    go (Some (Between t u)) =
        two_sized (λ a b. chance c p (between t u a b)) (λ a b. (refl, refl)) (tail (tail (tail ts))) ∙ sym (both_sized (tail (tail (tail ts))))

-- behind `P`, by the comparison and the threshold that were read
abbrev bound_sized : Option Bound → List Text → Option Size
bound_sized None ts = None
bound_sized (Some b) ts = size_of (path read (comparison_of b.comparison) b.threshold (tail (tail ts)))

pub chance_sized : (w : Text) (ts : List Text) (b : Option Bound) → BoundRead ts b → size_of (state read w chances ts) ≡ bound_sized b ts
unfolding state
chance_sized w ts b h = rw (h (path read)) (go b)
  where
    go : (b : Option Bound) → size_of (bound_then b (path read) (tail (tail ts))) ≡ bound_sized b ts
    go None = refl
    go (Some b) = refl

-- a state formula is read by its first token
pub state_sized : (s : Text) → size_of (read (tokens s)) ≡ size_of (state read (head_d (tokens s) []) (head_of (head_d (tokens s) [])) (tail (tokens s)))
state_sized s = ap size_of (read_next (tokens s))

-- bytes are enough for the counts, and more of them too
pub fits_wider : (z : Option Size) (m k : ℕ) → SizeFits z m → m ≤ k → SizeFits z k
fits_wider None m k f h = omega arith
fits_wider (Some z) m k f h = (omega arith, f.1, f.2)

-- no formula stands in an empty rest, and in another the first token has a mark before it
pub fits_rest : (s : Text) (z : Option Size) → SizeFits z (1 + (length (head_d (tokens s) []) + length (after_part space s))) → SizeFits z (length s)
unfolding parts_behind head_d after_part span_of
fits_rest [] None f = omega arith
fits_rest [] (Some z) f = absurd (omega arith)
fits_rest (b ∷ s) z f = fits_wider z _ _ f (behind_shorter space (b ∷ s) (omega arith))

pub ruleset pair_laws = (pair_sized, rest_is)

pub ruleset path_laws = (path_sized, behind_tail, after_within, fits_wider)

pub ruleset state_laws = (state_sized, behind_tail, behind_length, fits_rest)

pub ruleset head_laws = (bytes_behind, behind_tail, after_within, fits_wider)
