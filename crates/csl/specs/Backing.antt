-- "Such ends and verdicts are a backing of the report: a verdict for each node and state, two ends as well where the node is a `P`, and for
-- the outermost node the report's own." By recursion on the formula: each node has the backings of its operands. Assumes nothing.
use Rattle.std.specs.Prelude.{◌≡◌, ℕ, ◌<◌}
use Rattle.csl.specs.Formula.{Formula, always, label, negated, both, chance, Path, until, next_move, between, PathOf, until_of, next_of, between_of, Comparison}
use Rattle.csl.specs.Chain.{Chain}
use Rattle.csl.specs.Verdicts.{Verdict, Yes, marked, negation, conjunction}
use Rattle.csl.specs.Path.{FollowsAt, SidesAt, AllDecided}
use Rattle.csl.specs.Ends.{EndsAt}

-- at each state of the chain
abbrev pub AtEach : Chain → (ℕ → Type 0) → Type 0
AtEach c P = (s : ℕ) → s < c.states → P s

-- a node `!` with verdicts v, over an operand whose backings are A's
pub record NotBacked (c : Chain) (A : (ℕ → Verdict) → Type 0) (v : ℕ → Verdict) : Type 0 where
  pub first : ℕ → Verdict
  pub first_backed : A first
  pub verdict : AtEach c λ s. v s ≡ negation (first s)

-- a node `&`
pub record BothBacked (c : Chain) (A B : (ℕ → Verdict) → Type 0) (v : ℕ → Verdict) : Type 0 where
  pub first : ℕ → Verdict
  pub first_backed : A first
  pub second : ℕ → Verdict
  pub second_backed : B second
  pub verdict : AtEach c λ s. v s ≡ conjunction (first s) (second s)

-- a path over one operand with backings A, of which K is kept
pub record OneBacked (A : (ℕ → Verdict) → Type 0) (K : (v : ℕ → Verdict) → Type 0) : Type 0 where
  pub first : ℕ → Verdict
  pub first_backed : A first
  pub keeps : K first

-- a path over two operands with backings A and B, of which K is kept
pub record TwoBacked (A B : (ℕ → Verdict) → Type 0) (K : (v w : ℕ → Verdict) → Type 0) : Type 0 where
  pub first : ℕ → Verdict
  pub first_backed : A first
  pub second : ℕ → Verdict
  pub second_backed : B second
  pub keeps : K first second

-- a node `P` over a path whose operands have the verdicts in o, with its own ends
pub record ChanceKeeps (c : Chain) (r : Comparison) (p : ℕ) (lower upper : ℕ → ℕ) (v : ℕ → Verdict) (o : PathOf (ℕ → Verdict)) : Type 0 where
  pub ends : AtEach c λ s. EndsAt c o s (lower s) (upper s)
  pub verdict : AtEach c λ s. FollowsAt c o r p s (lower s) (upper s) (v s)

-- two ends for each state that keep K
pub record SomeEnds (K : (lower upper : ℕ → ℕ) → Type 0) : Type 0 where
  pub lower : ℕ → ℕ
  pub upper : ℕ → ℕ
  pub keeps : K lower upper

-- "ends and verdicts can be named for every node and state that keep [the rules] throughout and lead to" the outermost verdicts v; and, of
-- a path, verdicts for its operands that keep K
abbrev mutual
  pub Backed : Chain → Formula → (ℕ → Verdict) → Type 0
  Backed c always v = AtEach c λ s. v s ≡ Yes
  Backed c (label w) v = AtEach c λ s. v s ≡ marked (c.mark w s)
  Backed c (negated a) v = NotBacked c (λ x. Backed c a x) v
  Backed c (both a b) v = BothBacked c (λ x. Backed c a x) (λ x. Backed c b x) v
  Backed c (chance r p w) v = SomeEnds λ lower upper. PathBacked c w (ChanceKeeps c r p lower upper v)

  pub PathBacked : Chain → Path → (PathOf (ℕ → Verdict) → Type 0) → Type 0
  PathBacked c (until t a b) K = TwoBacked (λ x. Backed c a x) (λ x. Backed c b x) λ v w. K (until_of t v w)
  PathBacked c (next_move a) K = OneBacked (λ x. Backed c a x) λ v. K (next_of v)
  PathBacked c (between t u a b) K = TwoBacked (λ x. Backed c a x) (λ x. Backed c b x) λ v w. K (between_of t u v w)

-- the operands' verdicts
abbrev pub operands_of : (c : Chain) (w : Path) (K : PathOf (ℕ → Verdict) → Type 0) → PathBacked c w K → PathOf (ℕ → Verdict)
operands_of c (until t a b) K k = until_of t k.first k.second
operands_of c (next_move a) K k = next_of k.first
operands_of c (between t u a b) K k = between_of t u k.first k.second

-- nothing is undecided, at any node and state of a backing
unfoldable mutual
  pub NothingUndecided : (c : Chain) (f : Formula) (v : ℕ → Verdict) → Backed c f v → Type 0
  NothingUndecided c always v k = AllDecided c v
  NothingUndecided c (label name) v k = AllDecided c v
  NothingUndecided c (negated a) v k = AllDecided c v × NothingUndecided c a k.first k.first_backed
  NothingUndecided c (both a e) v k =
      AllDecided c v × NothingUndecided c a k.first k.first_backed × NothingUndecided c e k.second k.second_backed
  NothingUndecided c (chance r p w) v k = AllDecided c v × NothingUndecidedIn c w (ChanceKeeps c r p k.lower k.upper v) k.keeps

  pub NothingUndecidedIn : (c : Chain) (w : Path) (K : PathOf (ℕ → Verdict) → Type 0) → PathBacked c w K → Type 0
  NothingUndecidedIn c (until t a e) K k =
      NothingUndecided c a k.first k.first_backed × NothingUndecided c e k.second k.second_backed
  NothingUndecidedIn c (next_move a) K k = NothingUndecided c a k.first k.first_backed
  NothingUndecidedIn c (between t u a e) K k =
      NothingUndecided c a k.first k.first_backed × NothingUndecided c e k.second k.second_backed

-- Demand 2's rule at every `P` of a backing: this node, where it is one, and every node below it
unfoldable mutual
  pub SidesThroughout : (c : Chain) (f : Formula) (v : ℕ → Verdict) → Backed c f v → Type 0
  SidesThroughout c always v k = Unit {0}
  SidesThroughout c (label name) v k = Unit {0}
  SidesThroughout c (negated a) v k = SidesThroughout c a k.first k.first_backed
  SidesThroughout c (both a e) v k = SidesThroughout c a k.first k.first_backed × SidesThroughout c e k.second k.second_backed
  SidesThroughout c (chance r p w) v k =
      AtEach c (λ s. SidesAt c (operands_of c w (ChanceKeeps c r p k.lower k.upper v) k.keeps) r p s (k.lower s) (k.upper s) (v s))
      × SidesThroughoutIn c w (ChanceKeeps c r p k.lower k.upper v) k.keeps

  pub SidesThroughoutIn : (c : Chain) (w : Path) (K : PathOf (ℕ → Verdict) → Type 0) → PathBacked c w K → Type 0
  SidesThroughoutIn c (until t a e) K k =
      SidesThroughout c a k.first k.first_backed × SidesThroughout c e k.second k.second_backed
  SidesThroughoutIn c (next_move a) K k = SidesThroughout c a k.first k.first_backed
  SidesThroughoutIn c (between t u a e) K k =
      SidesThroughout c a k.first k.first_backed × SidesThroughout c e k.second k.second_backed
