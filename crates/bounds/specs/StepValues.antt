-- The numbers that the code of until and of the phase before it works out, from a chain and the two operands' verdicts: rounded step values, and
-- the two ends at one state. Assumes nothing.
use Rattle.std.specs.Prelude.{◌≡◌, Bool, true, false, cond, not, ℕ, suc, ◌+◌, ◌*◌, ◌-◌, ◌/◌, ◌≤◌, ◌<◌, leb, eqb}
use Rattle.csl.specs.Limits.{billion}
use Rattle.csl.specs.Chain.{Chain, greatest, top_rate}
use Rattle.csl.specs.Phase.{Phase, bit, moved}
use Rattle.csl.specs.Verdicts.{Verdict, No, Yes, Undecided, as_no, as_yes}
use Rattle.csl.specs.Laws.Decided.{all_decided}
use Rattle.bounds.specs.Unit.{unit, one}
use Rattle.bounds.specs.Ends.{lower_end}
use Rattle.bounds.specs.Upper.{upper_end}

-- which rule a later step follows: value 1; value 0; moved and divided by q
abbrev pub settled : Bool → Bool → ℕ → ℕ
settled true nil x = one
settled false true x = 0
settled false false x = x

-- step values that start from x, each step's rounded down from those of the step before, and held where the phase holds them; val k s is that of
-- state s at step k
pub record RoundsFrom (c : Chain) (ph : Phase) (x : ℕ → ℕ) (val : ℕ → ℕ → ℕ) : Type 0 where
  pub start : (s : ℕ) → s < c.states → val 0 s ≡ x s
  pub next : (k s : ℕ) → s < c.states → val (suc k) s ≡ settled (ph.one s) (ph.nil s) (moved c (val k) s / top_rate c)

-- those of a phase whose whole is 1
abbrev pub Rounds : Chain → Phase → (val : ℕ → ℕ → ℕ) → Type 0
Rounds c ph val = RoundsFrom c ph (λ s. one * ph.start s) val

-- a phase that starts from x billionths where the first operand holds and 0 elsewhere, and holds 0 where it fails; and its values
abbrev pub started_phase : (first : ℕ → Bool) → (x : ℕ → ℕ) → Phase
started_phase first x = record { whole = billion; start = λ s. cond (first s) (x s) 0; one = λ s. false; nil = λ s. not (first s) }

abbrev pub StartedRounds : Chain → (first : ℕ → Bool) → (x : ℕ → ℕ) → (val : ℕ → ℕ → ℕ) → Type 0
StartedRounds c first x val = RoundsFrom c (started_phase first x) (λ s. unit * cond (first s) (x s) 0) val

-- lower values of any phase: those of step 0 at most e units below the exact ones, and then each step's rounded down from those of the
-- step before
pub record Runs (c : Chain) (ph : Phase) (e : ℕ) (val : ℕ → ℕ → ℕ) : Type 0 where
  pub below : (s : ℕ) → s < c.states → val 0 s * ph.whole ≤ one * ph.start s
  pub near : (s : ℕ) → s < c.states → one * ph.start s ≤ (val 0 s + e) * ph.whole
  pub next : (k s : ℕ) → s < c.states → val (suc k) s ≡ settled (ph.one s) (ph.nil s) (moved c (val k) s / top_rate c)

-- "A state where the second operand is yes has both ends 1,000,000,000; one where both operands are no has both ends 0": the end at a
-- state whose operands have the verdicts v and w, and x where the rule says nothing
abbrev pub pointed : Verdict → Verdict → ℕ → ℕ
pointed v Yes x = billion
pointed No No x = 0
pointed Yes No x = x
pointed Undecided No x = x
pointed v Undecided x = x

-- A state's lower end: v and w are the operands' verdicts there, a / b the load, d the depth, low k the state's rounded value at step k
-- with undecided operand states read as no. "With load 0 each end is the exact value of its reading."
abbrev pub until_lower_of : (a b d : ℕ) → Verdict → Verdict → (ℕ → ℕ) → ℕ
until_lower_of a b d v w low = pointed v w (cond (eqb a 0) (billion * bit (as_no w)) (lower_end a b (a / b) d low))

-- Its upper end: high k is the state's rounded value at step k with undecided operand states read as yes.
abbrev pub until_upper_of : (a b d : ℕ) → Verdict → Verdict → (ℕ → ℕ) → ℕ
until_upper_of a b d v w high = pointed v w (cond (eqb a 0) (billion * bit (as_yes w)) (upper_end a b (a / b) d 0 high))

-- Starts that are at most so many billionths apart are near enough for one run to serve both ends: half of what the rules allow at the least depth.
abbrev pub most_gap : ℕ
most_gap = 80

-- how far apart two starts are at most, on n states; more than that where an operand state is undecided, whatever they are
unfoldable pub gap_of : (decided : Bool) → (lower upper : ℕ → ℕ) → ℕ → ℕ
gap_of decided lower upper n = cond decided (greatest (λ s. upper s - lower s) n) (suc most_gap)

-- the upper end, from the values of the lower start where the starts are near, with their gap as its error, else from those of the upper start
abbrev pub near_upper : (a b d gap : ℕ) → (low high : ℕ → ℕ) → ℕ
near_upper a b d gap low high = cond (leb gap most_gap) (upper_end a b (a / b) d (unit * gap) low) (upper_end a b (a / b) d 0 high)

-- The two ends at a state of an until between two times, whose later phase, until over the difference, has the ends lo and up there: v is the
-- first operand's verdict there, a / b the earlier phase's load, d its depth; low k and high k are its rounded values at step k, started from
-- the later phase's lower ends with undecided operand states read as no, and from its upper ends with them read as yes; gap is how far apart the
-- two starts are.
abbrev pub earlier_lower_of : (a b d : ℕ) → Verdict → (lo : ℕ) → (ℕ → ℕ) → ℕ
earlier_lower_of a b d v lo low = cond (eqb a 0) (cond (as_no v) lo 0) (pointed v No (lower_end a b (a / b) d low))

abbrev pub earlier_upper_of : (a b d gap : ℕ) → Verdict → (up : ℕ) → (low high : ℕ → ℕ) → ℕ
earlier_upper_of a b d gap v up low high = cond (eqb a 0) (cond (as_yes v) up 0) (pointed v No (near_upper a b d gap low high))

-- how far apart they are, where the first operand has the verdicts v on n states
abbrev pub earlier_gap : (n : ℕ) → (v : ℕ → Verdict) → (lo up : ℕ → ℕ) → ℕ
earlier_gap n v lo up = gap_of (all_decided n v) (λ s. cond (as_no (v s)) (lo s) 0) (λ s. cond (as_yes (v s)) (up s) 0) n
