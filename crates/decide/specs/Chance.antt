-- What the report of a `P` asks, once its path's operands are decided, and what it leaves. Assumes nothing.
use Rattle.std.specs.Prelude.{◌≡◌, true, false, List, ℕ, ◌+◌, ◌*◌, ◌-◌, ◌≤◌, ◌<◌, length}
use Rattle.csl.specs.Limits.{most_moves, most_threshold, most_rate_hundredths}
use Rattle.csl.specs.Formula.{PathOf, until_of, next_of, between_of, mapped, times_in_order, phases_pass, Comparison}
use Rattle.csl.specs.Chain.{Chain}
use Rattle.csl.specs.Verdicts.{Verdict}
use Rattle.csl.specs.Path.{meaning}
use Rattle.csl.specs.Lent.{verdict_byte}
use Rattle.numbers.specs.Filled.{at, Table, Twin}
use Rattle.bounds.specs.Found.{lower_path, upper_path, verdict_path}
use Rattle.verdicts.specs.Byte.{verdict_at}
use Rattle.rate_matrix.specs.Shown.{Shows}
use Rattle.incoming_moves.specs.Shown.{IndexShows}
use Rattle.vectors.specs.Places.{owns_from, EndsStored}
use Rattle.vectors.specs.Prepared.{Prepared}
use Rattle.vectors.specs.Owns.{Owns}
use Rattle.verdict_rows.specs.Row.{EndsIn}
use Rattle.formula.specs.Nodes.{path_meant}
use Rattle.formula.specs.Operands.{operands_in}
use Rattle.formula.specs.Pass.{light_of, unsearched}
use Rattle.formula.specs.declared.nodes.Path.{Path}
use Rattle.decide.specs.Rows.{rows_of, RowsHold, RowLeft}

-- The ends and the depth of a path whose operands have the verdicts in o.
pub record PathEnds (c : Chain) (o : PathOf (ℕ → Verdict)) (n : ℕ) (l₀ l : List ℕ) (d : ℕ) : Type 0 where
  pub ends : EndsStored (lower_path c o) (upper_path c o) n l₀ l
  pub range : EndsIn n l
  pub deep : d ≡ (meaning c o).depth

-- the verdict bytes of a `P` over it, with the comparison r and the threshold p
abbrev pub chance_byte : Chain → Comparison → ℕ → PathOf (ℕ → Verdict) → ℕ → ℕ
chance_byte c r p o s = verdict_byte (verdict_path c r p o s)

-- A `P` with the threshold p, over an until of t hundredths of an hour, is to be decided from the rows of its operands.
pub record UntilAsked (mv ix l marks : List ℕ) (n q t p : ℕ) : Type 0 where
  pub c : Chain
  pub shows : Shows c mv (length mv) n
  pub prepared : Prepared mv l n q
  pub few_words : length ix ≤ most_moves
  pub index : p ≡ 0 → (t ≡ 0 → ⊥) → IndexShows c ix l (owns_from n) n
  pub load : q * t ≤ most_rate_hundredths
  pub threshold : p ≤ most_threshold
  pub held : n + n ≤ length marks

-- A `P` over a path of two operands is decided: its own row, 0 in the second again, and its report.
pub record TwoDecided (c : Chain) (r : Comparison) (p : ℕ) (o : PathOf (ℕ → Verdict)) (n : ℕ) (l₀ l marks₀ marks : List ℕ) (d : ℕ) : Type 0 where
  pub rows : Twin (chance_byte c r p o) (λ _. 0) 0 n n marks₀ marks
  pub report : PathEnds c o n l₀ l d

-- It is, from the rows of the operands, whatever the verdicts are that their bytes stand for.
abbrev pub FromTwo : Chain → Comparison → ℕ → ((v w : ℕ → Verdict) → PathOf (ℕ → Verdict)) → (n : ℕ) → (l₀ l marks₀ marks : List ℕ) → ℕ → Type 0
FromTwo c r p path n l₀ l marks₀ marks d =
    (v w : ℕ → Verdict) → ((s : ℕ) → s < n → verdict_at (at marks₀ s) ≡ v s) → ((s : ℕ) → s < n → verdict_at (at marks₀ (n + s)) ≡ w s)
    → TwoDecided c r p (path v w) n l₀ l marks₀ marks d

abbrev pub UntilLeaves : {mv ix l marks : List ℕ} {n q t p : ℕ} → UntilAsked mv ix l marks n q t p → Comparison → (l' marks' : List ℕ) → ℕ → Type 0
UntilLeaves {l = l} {marks = marks} {n = n} {t = t} {p = p} a r l' marks' d =
    FromTwo a.c r p (until_of t) n l l' marks marks' d

-- The same over a next move, from the row of its operand.
pub record NextAsked (mv l marks : List ℕ) (n p : ℕ) : Type 0 where
  pub c : Chain
  pub q : ℕ
  pub shows : Shows c mv (length mv) n
  pub prepared : Prepared mv l n q
  pub owns : Owns c l n
  pub threshold : p ≤ most_threshold
  pub held : n ≤ length marks

pub record NextDecided (c : Chain) (r : Comparison) (p : ℕ) (o : PathOf (ℕ → Verdict)) (n : ℕ) (l₀ l marks₀ marks : List ℕ) (d : ℕ) : Type 0 where
  pub row : Table (chance_byte c r p o) marks₀ marks n
  pub report : PathEnds c o n l₀ l d

abbrev pub NextLeaves : {mv l marks : List ℕ} {n p : ℕ} → NextAsked mv l marks n p → Comparison → (l' marks' : List ℕ) → ℕ → Type 0
NextLeaves {l = l} {marks = marks} {n = n} {p = p} a r l' marks' d =
    (v : ℕ → Verdict) → ((s : ℕ) → s < n → verdict_at (at marks s) ≡ v s) → NextDecided a.c r p (next_of v) n l l' marks marks' d

-- Over an until between the times t and u, with t above 0.
pub record TwoPhasesAsked (mv l marks : List ℕ) (n q t u p : ℕ) : Type 0 where
  pub c : Chain
  pub shows : Shows c mv (length mv) n
  pub prepared : Prepared mv l n q
  pub some : 0 < t
  pub in_order : t ≤ u
  pub earlier_load : q * t ≤ most_rate_hundredths
  pub later_load : q * (u - t) ≤ most_rate_hundredths
  pub threshold : p ≤ most_threshold
  pub held : n + n ≤ length marks

abbrev pub TwoPhasesLeaves : {mv l marks : List ℕ} {n q t u p : ℕ} → TwoPhasesAsked mv l marks n q t u p → Comparison → (l' marks' : List ℕ) → ℕ → Type 0
TwoPhasesLeaves {l = l} {marks = marks} {n = n} {t = t} {u = u} {p = p} a r l' marks' d =
    FromTwo a.c r p (between_of t u) n l l' marks marks' d

-- And with any first time: where it is 0, what until over the second asks.
pub record BetweenAsked (mv ix l marks : List ℕ) (n q t u p : ℕ) : Type 0 where
  pub c : Chain
  pub shows : Shows c mv (length mv) n
  pub prepared : Prepared mv l n q
  pub few_words : length ix ≤ most_moves
  pub index : t ≡ 0 → p ≡ 0 → (u ≡ 0 → ⊥) → IndexShows c ix l (owns_from n) n
  pub in_order : t ≤ u
  pub load : t ≡ 0 → q * u ≤ most_rate_hundredths
  pub loads : (t ≡ 0 → ⊥) → (q * t ≤ most_rate_hundredths) × (q * (u - t) ≤ most_rate_hundredths)
  pub threshold : p ≤ most_threshold
  pub held : n + n ≤ length marks

abbrev pub BetweenLeaves : {mv ix l marks : List ℕ} {n q t u p : ℕ} → BetweenAsked mv ix l marks n q t u p → Comparison → (l' marks' : List ℕ) → ℕ → Type 0
BetweenLeaves {l = l} {marks = marks} {n = n} {t = t} {u = u} {p = p} a r l' marks' d =
    FromTwo a.c r p (between_of t u) n l l' marks marks' d

-- And over any path.
pub record ChanceAsked (mv ix l marks : List ℕ) (path : Path) (p n q : ℕ) : Type 0 where
  pub c : Chain
  pub shows : Shows c mv (length mv) n
  pub prepared : Prepared mv l n q
  pub owns : Owns c l n
  pub few_words : length ix ≤ most_moves
  pub index : unsearched p (path_meant path) ≡ false → IndexShows c ix l (owns_from n) n
  pub in_order : times_in_order (path_meant path) ≡ true
  pub load : phases_pass (light_of q) (path_meant path) ≡ true
  pub threshold : p ≤ most_threshold
  pub held : rows_of (operands_in (path_meant path)) * n ≤ length marks

pub record ChanceDecided (c : Chain) (r : Comparison) (p : ℕ) (path : Path) (vs : ℕ → ℕ → Verdict) (n : ℕ) (l₀ l marks₀ marks : List ℕ) (d : ℕ) : Type 0 where
  pub row : RowLeft (operands_in (path_meant path)) (chance_byte c r p (mapped vs (path_meant path))) n marks₀ marks
  pub report : PathEnds c (mapped vs (path_meant path)) n l₀ l d

-- where vs has the verdicts of the operands, by their places
abbrev pub ChanceLeaves : {mv ix l marks : List ℕ} {path : Path} {p n q : ℕ} → ChanceAsked mv ix l marks path p n q → Comparison → (l' marks' : List ℕ) → ℕ → Type 0
ChanceLeaves {l = l} {marks = marks} {path = path} {p = p} {n = n} a r l' marks' d =
    (vs : ℕ → ℕ → Verdict) → RowsHold (operands_in (path_meant path)) vs marks n → ChanceDecided a.c r p path vs n l l' marks marks' d
