-- The report: ends, depth and verdict for each state, when a backing leads to it, and its two listings. Assumes nothing.
use Rattle.std.specs.Prelude.{◌≡◌, ℕ, zero, suc, ◌+◌, ◌/◌, ◌%◌, true, false, List, [], ◌∷◌, ◌++◌, ltb}
use Rattle.csl.specs.Text.{Text, bytes}
use Rattle.csl.specs.Limits.{billion}
use Rattle.csl.specs.Line.{line_feed, comma}
use Rattle.csl.specs.Formula.{Formula, always, label, negated, both, chance, path_of}
use Rattle.csl.specs.Chain.{Chain}
use Rattle.csl.specs.Verdicts.{Verdict, No, Yes, Undecided}
use Rattle.csl.specs.Path.{meaning}
use Rattle.csl.specs.Backing.{AtEach, Backed, PathBacked, ChanceKeeps}
use Rattle.csl.specs.Order.{by_number, worst_first}

-- "the depth D of the outermost until"; "For an outermost node other than `P`, the depth is 0 .."
unfoldable pub depth_of : Chain → Formula → ℕ
depth_of c always = 0
depth_of c (label w) = 0
depth_of c (negated a) = 0
depth_of c (both a b) = 0
depth_of c (chance r p w) = (meaning c (path_of w)).depth

-- ".. and the ends are 1,000,000,000 twice for yes, 0 twice for no, 0 and 1,000,000,000 for undecided"
abbrev pub lower_of : Verdict → ℕ
lower_of No = 0
lower_of Yes = billion
lower_of Undecided = 0

abbrev pub upper_of : Verdict → ℕ
upper_of No = 0
upper_of Yes = billion
upper_of Undecided = billion

pub record PlainReport (c : Chain) (f : Formula) (lower upper : ℕ → ℕ) (v : ℕ → Verdict) : Type 0 where
  pub backed : Backed c f v
  pub lowers : AtEach c λ s. lower s ≡ lower_of (v s)
  pub uppers : AtEach c λ s. upper s ≡ upper_of (v s)

-- the ends and verdicts of a report that has a backing; "for the outermost node the report's own"
abbrev pub Reported : Chain → Formula → (lower upper : ℕ → ℕ) → (ℕ → Verdict) → Type 0
Reported c always lower upper v = PlainReport c always lower upper v
Reported c (label w) lower upper v = PlainReport c (label w) lower upper v
Reported c (negated a) lower upper v = PlainReport c (negated a) lower upper v
Reported c (both a b) lower upper v = PlainReport c (both a b) lower upper v
Reported c (chance r p w) lower upper v = PathBacked c w (ChanceKeeps c r p lower upper v)

-- the backing that a report has: of a `P`, its own ends with its operands' backings
unfoldable pub backing_of : (c : Chain) (f : Formula) (lower upper : ℕ → ℕ) (v : ℕ → Verdict) → Reported c f lower upper v → Backed c f v
backing_of c always lower upper v k = k.backed
backing_of c (label name) lower upper v k = k.backed
backing_of c (negated a) lower upper v k = k.backed
backing_of c (both a b) lower upper v k = k.backed
backing_of c (chance r p w) lower upper v k = record { lower = lower; upper = upper; keeps = k }

-- the last decimal digit of a number
abbrev pub last_digit : ℕ → Text
last_digit n = (48 + n % 10) ∷ []

-- a number in decimal digits; the first argument is steps enough
unfoldable pub decimal_in : ℕ → ℕ → Text
decimal_in zero n = last_digit n
decimal_in (suc k) n = elim (ltb n 10) [ true ↦ last_digit n | false ↦ decimal_in k (n / 10) ++ last_digit n ]

unfoldable pub decimal : ℕ → Text
decimal n = decimal_in n n

-- "the verdict in a word"
abbrev pub verdict_word : Verdict → Text
verdict_word No = bytes "no"
verdict_word Yes = bytes "yes"
verdict_word Undecided = bytes "undecided"

-- the line of a state: its number, "the ends in billionths, the depth D of the outermost until, the verdict in a word"
unfoldable pub row_text : ℕ → ℕ → ℕ → ℕ → Verdict → Text
row_text s lower upper d v =
    decimal s ++ (comma ∷ decimal lower) ++ (comma ∷ decimal upper) ++ (comma ∷ decimal d) ++ (comma ∷ verdict_word v) ++ (line_feed ∷ [])

-- the lines of these states, one after the other
unfoldable pub rows_text : List ℕ → (lower upper : ℕ → ℕ) → ℕ → (ℕ → Verdict) → Text
rows_text [] lower upper d v = []
rows_text (s ∷ l) lower upper d v = row_text s (lower s) (upper s) d (v s) ++ rows_text l lower upper d v

-- a listing of these states: "the line `state,lower,upper,depth,verdict`, then these for each"
unfoldable pub listing_text : List ℕ → (lower upper : ℕ → ℕ) → ℕ → (ℕ → Verdict) → Text
listing_text l lower upper d v = bytes "state,lower,upper,depth,verdict\n" ++ rows_text l lower upper d v

-- "It prints .. these for each state in order"; "A second listing, printed after the first with the line of names again at its head, gives the
-- same rows by falling lower end, equal ones by rising state number."
unfoldable pub report_text : ℕ → (lower upper : ℕ → ℕ) → ℕ → (ℕ → Verdict) → Text
report_text n lower upper d v = listing_text (by_number n) lower upper d v ++ listing_text (worst_first lower upper n) lower upper d v

-- "A refusal prints `refused` and, on the next line, its number."
unfoldable pub refusal_text : ℕ → Text
refusal_text number = bytes "refused\n" ++ decimal number ++ (line_feed ∷ [])
