-- Possible and certain, by the graph: "'Can it happen at all' must not end undecided because the chance is under a billionth." What the moves
-- alone say of a path, and where they decide the verdict of a `P`. Assumes nothing.
use Rattle.std.specs.Prelude.{◌≡◌, Bool, true, ◌⊎◌, ℕ, zero, suc, ◌<◌}
use Rattle.csl.specs.Limits.{billion}
use Rattle.csl.specs.Formula.{Comparison, Less, AtMost, AtLeast, More}
use Rattle.csl.specs.Chain.{Chain}
use Rattle.csl.specs.Verdicts.{Verdict, No, Yes, Undecided, negation, Decided}

-- "states of the first operand, this one included, lead along moves to a state of the second", where x and y say where the operands hold; a
-- state of the second leads to itself
pub data Leads (c : Chain) (x y : ℕ → Bool) : ℕ → Type 0 where
  arrived : (s : ℕ) → y s ≡ true → Leads c x y s
  moves : (s t : ℕ) → x s ≡ true → t < c.states → 0 < c.rate s t → Leads c x y t → Leads c x y s

-- "Until is possible where the second operand holds, or, with time above 0, where states of the first operand .. lead along moves to a state of
-- the second"
abbrev pub UntilPossible : Chain → (t : ℕ) → (x y : ℕ → Bool) → ℕ → Type 0
UntilPossible c zero x y s = y s ≡ true
UntilPossible c (suc t) x y s = Leads c x y s

-- "it is certain only where the second holds"
abbrev pub UntilCertain : (y : ℕ → Bool) → ℕ → Type 0
UntilCertain y s = y s ≡ true

-- "Next is possible where some move enters the operand"
pub record Enters (c : Chain) (x : ℕ → Bool) (s : ℕ) : Type 0 where
  pub target : ℕ
  pub in_range : target < c.states
  pub move : 0 < c.rate s target
  pub holds : x target ≡ true

-- "and certain where moves exist and all do"
pub record EntersOnly (c : Chain) (x : ℕ → Bool) (s : ℕ) : Type 0 where
  pub some_move : Enters c (λ t. true) s
  pub all : (t : ℕ) → t < c.states → 0 < c.rate s t → x t ≡ true

-- v says whether A holds, and is "never undecided"
abbrev pub Tells : Verdict → Type 0 → Type 0
Tells Yes A = A
Tells No A = A → ⊥
Tells Undecided A = ⊥

-- with the threshold 0, `>` asks for possible and `<=` for its opposite; `>=` is yes, `<` no
abbrev pub ByPossible : Comparison → Type 0 → Verdict → Type 0
ByPossible More possible v = Tells v possible
ByPossible AtMost possible v = Tells (negation v) possible
ByPossible AtLeast possible v = v ≡ Yes
ByPossible Less possible v = v ≡ No

-- with 1,000,000,000, `>=` asks for certain and `<` for its opposite; `<=` is yes, `>` no
abbrev pub ByCertain : Comparison → Type 0 → Verdict → Type 0
ByCertain AtLeast certain v = Tells v certain
ByCertain Less certain v = Tells (negation v) certain
ByCertain AtMost certain v = v ≡ Yes
ByCertain More certain v = v ≡ No

-- no state of the chain is undecided
abbrev pub AllDecided : Chain → (ℕ → Verdict) → Type 0
AllDecided c v = (s : ℕ) → s < c.states → Decided (v s)

-- "For `U` and `X` with thresholds 0 and 1,000,000,000, where no operand state is undecided, the moves now decide the verdict"; "There this
-- replaces the interval rule". The verdict v of a `P` at a state, where `decided` says that no operand state is undecided, `possible` and
-- `certain` what the moves say there, and `interval` what the interval rule says of v.
pub record Ruled (decided : Type 0) (r : Comparison) (p : ℕ) (possible certain : Type 0) (v : Verdict) (interval : Type 0) : Type 0 where
  pub at_0 : decided → p ≡ 0 → ByPossible r possible v
  pub at_1 : decided → p ≡ billion → ByCertain r certain v
  pub elsewhere : (decided → (p ≡ 0) ⊎ (p ≡ billion) → ⊥) → interval
