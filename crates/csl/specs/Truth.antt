-- "A truth table gives each node and state yes or no. It obeys CSL's rules if, with the table's own entries as operands, .." By recursion
-- on the formula: each node has the tables of its operands. Assumes nothing.
use Rattle.std.specs.Prelude.{◌≡◌, Bool, true, false, not, ◌&&◌, ℕ}
use Rattle.csl.specs.Formula.{Formula, always, label, negated, both, chance, Path, until, next_move, between, PathOf, until_of, next_of, between_of, Comparison}
use Rattle.csl.specs.Chain.{Chain}
use Rattle.csl.specs.Limit.{Value, Holds, opposite}
use Rattle.csl.specs.Verdicts.{Verdict, Reading}
use Rattle.csl.specs.Path.{value_at}
use Rattle.csl.specs.Backing.{AtEach, Backed, PathBacked, ChanceKeeps}

-- ".. `tt`, labels, `!` and `&` have what this section gives them"
pub record NotTrue (c : Chain) (A : (ℕ → Bool) → Type 0) (b : ℕ → Bool) : Type 0 where
  pub first : ℕ → Bool
  pub first_obeys : A first
  pub entry : AtEach c λ s. b s ≡ not (first s)

pub record BothTrue (c : Chain) (A B : (ℕ → Bool) → Type 0) (b : ℕ → Bool) : Type 0 where
  pub first : ℕ → Bool
  pub first_obeys : A first
  pub second : ℕ → Bool
  pub second_obeys : B second
  pub entry : AtEach c λ s. b s ≡ (first s && second s)

-- ".. each `P` entry is yes only where its comparison holds in the limit meaning above and no only where the opposite comparison holds"; "For `X`
-- the truth tables compare the exact fraction with the threshold."
pub record Entry (r : Comparison) (p : ℕ) (x : Value) (b : Bool) : Type 0 where
  pub if_yes : b ≡ true → Holds r p x
  pub if_no : b ≡ false → Holds (opposite r) p x

-- a `P` over a path whose operands hold where x says
abbrev pub ChanceObeys : Chain → Comparison → ℕ → (ℕ → Bool) → PathOf (ℕ → Bool) → Type 0
ChanceObeys c r p b x = AtEach c λ s. Entry r p (value_at c x s) (b s)

-- a path over one operand with tables A, whose entries keep L
pub record OneTrue (A : (ℕ → Bool) → Type 0) (L : (x : ℕ → Bool) → Type 0) : Type 0 where
  pub first : ℕ → Bool
  pub first_obeys : A first
  pub entry : L first

-- a path over two operands with tables A and B, whose entries keep L
pub record TwoTrue (A B : (ℕ → Bool) → Type 0) (L : (x y : ℕ → Bool) → Type 0) : Type 0 where
  pub first : ℕ → Bool
  pub first_obeys : A first
  pub second : ℕ → Bool
  pub second_obeys : B second
  pub entry : L first second

-- b are the outermost node's entries in a table that obeys CSL's rules; and, of a path, entries for its operands that keep L
abbrev mutual
  pub Obeys : Chain → Formula → (ℕ → Bool) → Type 0
  Obeys c always b = AtEach c λ s. b s ≡ true
  Obeys c (label w) b = AtEach c λ s. b s ≡ c.mark w s
  Obeys c (negated a) b = NotTrue c (λ x. Obeys c a x) b
  Obeys c (both a e) b = BothTrue c (λ x. Obeys c a x) (λ x. Obeys c e x) b
  Obeys c (chance r p w) b = PathObeys c w (ChanceObeys c r p b)

  pub PathObeys : Chain → Path → (PathOf (ℕ → Bool) → Type 0) → Type 0
  PathObeys c (until t a e) L = TwoTrue (λ x. Obeys c a x) (λ x. Obeys c e x) λ x y. L (until_of t x y)
  PathObeys c (next_move a) L = OneTrue (λ x. Obeys c a x) λ x. L (next_of x)
  PathObeys c (between t u a e) L = TwoTrue (λ x. Obeys c a x) (λ x. Obeys c e x) λ x y. L (between_of t u x y)

-- the table agrees with the backing at this node and at every node below it
unfoldable mutual
  pub Throughout : (c : Chain) (f : Formula) (v : ℕ → Verdict) (b : ℕ → Bool) → Backed c f v → Obeys c f b → Type 0
  Throughout c always v b k o = Reading c.states v b
  Throughout c (label name) v b k o = Reading c.states v b
  Throughout c (negated a) v b k o = Reading c.states v b × Throughout c a k.first o.first k.first_backed o.first_obeys
  Throughout c (both a e) v b k o =
      Reading c.states v b × Throughout c a k.first o.first k.first_backed o.first_obeys
      × Throughout c e k.second o.second k.second_backed o.second_obeys
  Throughout c (chance r p w) v b k o =
      Reading c.states v b × ThroughoutIn c w (ChanceKeeps c r p k.lower k.upper v) (ChanceObeys c r p b) k.keeps o

  pub ThroughoutIn : (c : Chain) (w : Path) (K : PathOf (ℕ → Verdict) → Type 0) (L : PathOf (ℕ → Bool) → Type 0)
      → PathBacked c w K → PathObeys c w L → Type 0
  ThroughoutIn c (until t a e) K L k o =
      Throughout c a k.first o.first k.first_backed o.first_obeys
      × Throughout c e k.second o.second k.second_backed o.second_obeys
  ThroughoutIn c (next_move a) K L k o = Throughout c a k.first o.first k.first_backed o.first_obeys
  ThroughoutIn c (between t u a e) K L k o =
      Throughout c a k.first o.first k.first_backed o.first_obeys
      × Throughout c e k.second o.second k.second_backed o.second_obeys
