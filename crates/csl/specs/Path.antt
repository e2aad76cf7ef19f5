-- What each path formula means, one line for each kind of path; and its value, point ends and verdicts for given operands. Assumes nothing.
use Rattle.std.specs.Prelude.{◌≡◌, ℕ, zero, suc, Bool}
use Rattle.csl.specs.Formula.{PathOf, until_of, next_of, between_of, Comparison}
use Rattle.csl.specs.Chain.{Chain}
use Rattle.csl.specs.Limit.{Value}
use Rattle.csl.specs.Verdicts.{Verdict, Reading, least, most, judged, Sides}
pub use Rattle.csl.specs.Graph.{AllDecided}
use Rattle.csl.specs.Meaning.{Meaning}
use Rattle.csl.specs.Until.{until_meaning}
use Rattle.csl.specs.Next.{next_meaning}
use Rattle.csl.specs.Between.{between_meaning}

-- the meaning of a path on a chain; of `V` "with the first time 0 it is `U` with the second"
abbrev pub meaning : {A : Type 0} → Chain → PathOf A → Meaning A
meaning c (until_of t a b) = until_meaning c t a b
meaning c (next_of a) = next_meaning c a
meaning c (between_of zero u a b) = until_meaning c u a b
meaning c (between_of (suc t) u a b) = between_meaning c (suc t) u a b

-- the probability of a path at a state, where x says where its operands hold
abbrev pub value_at : Chain → PathOf (ℕ → Bool) → ℕ → Value
value_at c x s = (meaning c x).value (λ holds. holds) s

-- "The lower end of `P` is worked out with undecided operand states read as no, the upper end with them read as yes."
abbrev pub low_value : Chain → PathOf (ℕ → Verdict) → ℕ → Value
low_value c o s = (meaning c o).value least s

abbrev pub high_value : Chain → PathOf (ℕ → Verdict) → ℕ → Value
high_value c o s = (meaning c o).value most s

-- the point ends, where the operands have the verdicts in o
abbrev pub PointsAt : Chain → PathOf (ℕ → Verdict) → (s lower upper : ℕ) → Type 0
PointsAt c o s lower upper = (meaning c o).Points (λ v. v) s lower upper

-- the verdict that follows: by the moves, or by the interval, "`>=` is yes if lower ≥ p, no if upper < p; .."
abbrev pub FollowsAt : Chain → PathOf (ℕ → Verdict) → Comparison → (p s lower upper : ℕ) → Verdict → Type 0
FollowsAt c o r p s lower upper v = (meaning c o).Follows (λ v. v) r p s v (v ≡ judged r p lower upper)

-- the same in demand 2's words: where the interval has a say, it lies wholly on one side of the threshold, or on neither
abbrev pub SidesAt : Chain → PathOf (ℕ → Verdict) → Comparison → (p s lower upper : ℕ) → Verdict → Type 0
SidesAt c o r p s lower upper v = (meaning c o).Follows (λ v. v) r p s v (Sides v r p lower upper)

-- no operand state of a path is undecided
abbrev pub DecidedIn : Chain → PathOf (ℕ → Verdict) → Type 0
DecidedIn c (until_of t v w) = AllDecided c v × AllDecided c w
DecidedIn c (next_of v) = AllDecided c v
DecidedIn c (between_of t u v w) = AllDecided c v × AllDecided c w

-- "A reading takes each operand at each state for yes or no": x is one of operands with the verdicts in o, on n states
pub data Reads (n : ℕ) : (o : PathOf (ℕ → Verdict)) → (x : PathOf (ℕ → Bool)) → Type 0 where
  reads_until : (t : ℕ) (v w : ℕ → Verdict) (x y : ℕ → Bool) → Reading n v x → Reading n w y → Reads n (until_of t v w) (until_of t x y)
  reads_next : (v : ℕ → Verdict) (x : ℕ → Bool) → Reading n v x → Reads n (next_of v) (next_of x)
  reads_between : (t u : ℕ) (v w : ℕ → Verdict) (x y : ℕ → Bool) → Reading n v x → Reading n w y
      → Reads n (between_of t u v w) (between_of t u x y)
