-- State formulas and path formulas as trees: "Each state formula counts as one node". Assumes nothing.
use Rattle.std.specs.Prelude.{ℕ, zero, suc, ◌+◌, ◌-◌, max, Bool, true, false, ◌&&◌, leb}
use Rattle.csl.specs.Text.{Text}

-- "Comparisons are `<`, `<=`, `>=`, `>` (the four of source document 002)."
pub data Comparison : Type 0 where
  Less AtMost AtLeast More : Comparison

-- A path formula whose operands are of some type: formulas, their verdicts, or where they hold. "A path formula is `U`, .. hours and two state
-- formulas", the hours in hundredths; "a path formula may also be `X` and a state formula"; "a path formula may be `V` with two times and two
-- state formulas: the second at some time between them, the first until then". "Both times travel in the formula's node".
pub data PathOf (A : Type 0) : Type 0 where
  until_of : ℕ → A → A → PathOf A
  next_of : A → PathOf A
  between_of : ℕ → ℕ → A → A → PathOf A

-- "A state formula is `tt`, a label name, `!` and a state formula, `&` and two state formulas, or `P`, a comparison, a threshold and a
-- path formula." A Path is a `PathOf Formula`, which may not stand there itself.
mutual
  pub data Formula : Type 0 where
    always : Formula
    label : Text → Formula
    negated : Formula → Formula
    both : Formula → Formula → Formula
    chance : Comparison → ℕ → Path → Formula

  pub data Path : Type 0 where
    until : ℕ → Formula → Formula → Path
    next_move : Formula → Path
    between : ℕ → ℕ → Formula → Formula → Path

-- a path formula as a path over formulas
abbrev pub path_of : Path → PathOf Formula
path_of (until t a b) = until_of t a b
path_of (next_move a) = next_of a
path_of (between t u a b) = between_of t u a b

-- the same path over other operands
abbrev pub mapped : {A B : Type 0} → (A → B) → PathOf A → PathOf B
mapped f (until_of t a b) = until_of t (f a) (f b)
mapped f (next_of a) = next_of (f a)
mapped f (between_of t u a b) = between_of t u (f a) (f b)

-- "Each state formula counts as one node"
unfoldable mutual
  pub nodes : Formula → ℕ
  nodes always = 1
  nodes (label w) = 1
  nodes (negated a) = 1 + nodes a
  nodes (both a b) = 1 + (nodes a + nodes b)
  nodes (chance r p w) = 1 + nodes_in w

  pub nodes_in : Path → ℕ
  nodes_in (until t a b) = nodes a + nodes b
  nodes_in (next_move a) = nodes a
  nodes_in (between t u a b) = nodes a + nodes b

-- "nested at most 16 deep; a label alone is depth 1"
unfoldable mutual
  pub levels : Formula → ℕ
  levels always = 1
  levels (label w) = 1
  levels (negated a) = 1 + levels a
  levels (both a b) = 1 + max (levels a) (levels b)
  levels (chance r p w) = 1 + levels_in w

  pub levels_in : Path → ℕ
  levels_in (until t a b) = max (levels a) (levels b)
  levels_in (next_move a) = levels a
  levels_in (between t u a b) = max (levels a) (levels b)

-- each label name in it passes a test
unfoldable mutual
  pub labels_pass : (Text → Bool) → Formula → Bool
  labels_pass test always = true
  labels_pass test (label w) = test w
  labels_pass test (negated a) = labels_pass test a
  labels_pass test (both a b) = labels_pass test a && labels_pass test b
  labels_pass test (chance r p w) = labels_pass_in test w

  pub labels_pass_in : (Text → Bool) → Path → Bool
  labels_pass_in test (until t a b) = labels_pass test a && labels_pass test b
  labels_pass_in test (next_move a) = labels_pass test a
  labels_pass_in test (between t u a b) = labels_pass test a && labels_pass test b

-- the hours that a path is written with pass a test, in hundredths; `X` has none
abbrev pub times_pass : {A : Type 0} → (ℕ → Bool) → PathOf A → Bool
times_pass test (until_of t a b) = test t
times_pass test (next_of a) = true
times_pass test (between_of t u a b) = test t && test u

-- whether a path has two phases: "With the first time 0 it is `U` with the second. Otherwise the later of two phases is until over the
-- difference."
abbrev pub two_phases : {A : Type 0} → PathOf A → Bool
two_phases (until_of t a b) = false
two_phases (next_of a) = false
two_phases (between_of zero u a b) = false
two_phases (between_of (suc t) u a b) = true

-- the hours of each of its phases pass a test: the earlier of two goes to the first time
abbrev pub phases_pass : {A : Type 0} → (ℕ → Bool) → PathOf A → Bool
phases_pass test (until_of t a b) = test t
phases_pass test (next_of a) = true
phases_pass test (between_of zero u a b) = test u
phases_pass test (between_of (suc t) u a b) = test (suc t) && test (u - suc t)

-- the first of two times does not exceed the second
abbrev pub times_in_order : {A : Type 0} → PathOf A → Bool
times_in_order (until_of t a b) = true
times_in_order (next_of a) = true
times_in_order (between_of t u a b) = leb t u

-- the threshold and the path of each `P` in it pass a test
unfoldable mutual
  pub paths_pass : (ℕ → PathOf Formula → Bool) → Formula → Bool
  paths_pass test always = true
  paths_pass test (label w) = true
  paths_pass test (negated a) = paths_pass test a
  paths_pass test (both a b) = paths_pass test a && paths_pass test b
  paths_pass test (chance r p w) = test p (path_of w) && paths_pass_in test w

  pub paths_pass_in : (ℕ → PathOf Formula → Bool) → Path → Bool
  paths_pass_in test (until t a b) = paths_pass test a && paths_pass test b
  paths_pass_in test (next_move a) = paths_pass test a
  paths_pass_in test (between t u a b) = paths_pass test a && paths_pass test b
