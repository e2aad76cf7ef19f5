-- What the probability of a path formula is at one state, and the meaning of the four comparisons of it with p billionths. What the paper
-- takes away on one side stands added on the other. Assumes nothing.
use Rattle.std.specs.Prelude.{ℕ, ◌≤◌}
use Rattle.csl.specs.Formula.{Comparison, Less, AtMost, AtLeast, More}
use Rattle.csl.specs.Fraction.{Fraction, Below, StrictlyBelow, plus, billionths, part}

pub data Value : Type 0 where
  -- "the exact fraction"
  exact : (x : Fraction) → Value
  -- the limit of quotients x; d is their depth D
  limit : (d : ℕ) → (x : ℕ → Fraction) → Value
  -- "the limit meaning reads depths as such pairs": of quotients x at pairs of depths; d and e are "the two phases' own depths"
  limits : (d e : ℕ) → (x : ℕ → ℕ → Fraction) → Value

-- "all quotients from D on"; of an exact fraction, that one; of two phases "for each pair of depths from the two phases' own depths on"
abbrev pub Each : (Fraction → Type 0) → Value → Type 0
Each P (exact x) = P x
Each P (limit d x) = (n : ℕ) → d ≤ n → P (x n)
Each P (limits d e x) = (m n : ℕ) → d ≤ m → e ≤ n → P (x m n)

-- "there is a depth from which all quotients are .."
pub record FromSome (x : ℕ → Fraction) (P : Fraction → Type 0) : Type 0 where
  pub begin : ℕ
  pub all : (n : ℕ) → begin ≤ n → P (x n)

-- the same of pairs of depths: there is a pair from which, in both, all quotients are ..
pub record FromSomePair (x : ℕ → ℕ → Fraction) (P : Fraction → Type 0) : Type 0 where
  pub begin : ℕ
  pub begin_later : ℕ
  pub all : (m n : ℕ) → begin ≤ m → begin_later ≤ n → P (x m n)

-- "for each whole m from 1"
abbrev pub ForEach : (ℕ → Type 0) → Type 0
ForEach P = (m : ℕ) → 1 ≤ m → P m

-- "for some m"
pub record ForSome (P : ℕ → Type 0) : Type 0 where
  pub m : ℕ
  pub from_one : 1 ≤ m
  pub holds : P m

-- "At least p": for each m there is a depth from which all quotients are at least p − 1/m. "Less than p": for some m there is a depth from
-- which all are at most p − 1/m. "'At most' and 'more than' mirror these." In P says that from some depth, or pair of depths, all quotients
-- are P.
abbrev pub LimitIs : Comparison → ℕ → ((Fraction → Type 0) → Type 0) → Type 0
LimitIs AtLeast p In = ForEach λ m. In λ y. Below (billionths p) (plus y (part m))
LimitIs Less p In = ForSome λ m. In λ y. Below (plus y (part m)) (billionths p)
LimitIs AtMost p In = ForEach λ m. In λ y. Below y (plus (billionths p) (part m))
LimitIs More p In = ForSome λ m. In λ y. Below (plus (billionths p) (part m)) y

-- "For `X` the truth tables compare the exact fraction with the threshold."
abbrev pub FractionIs : Comparison → ℕ → Fraction → Type 0
FractionIs AtLeast p x = Below (billionths p) x
FractionIs Less p x = StrictlyBelow x (billionths p)
FractionIs AtMost p x = Below x (billionths p)
FractionIs More p x = StrictlyBelow (billionths p) x

abbrev pub Holds : Comparison → ℕ → Value → Type 0
Holds r p (exact x) = FractionIs r p x
Holds r p (limit d x) = LimitIs r p (FromSome x)
Holds r p (limits d e x) = LimitIs r p (FromSomePair x)

-- the opposite comparison
abbrev pub opposite : Comparison → Comparison
opposite Less = AtLeast
opposite AtLeast = Less
opposite AtMost = More
opposite More = AtMost
