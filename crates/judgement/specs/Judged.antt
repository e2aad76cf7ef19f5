-- What judging the row of a `P` asks, once its ends stand in the words, and what it leaves. Assumes nothing.
use Rattle.std.specs.Prelude.{◌≡◌, Bool, true, false, cond, List, ℕ, ◌+◌, ◌≤◌, ◌<◌, length, eqb, ltb}
use Rattle.csl.specs.Limits.{billion, most_states, most_moves}
use Rattle.csl.specs.Formula.{Comparison, PathOf, until_of}
use Rattle.csl.specs.Chain.{Chain}
use Rattle.csl.specs.Verdicts.{Verdict, judged, as_no}
use Rattle.csl.specs.Lent.{verdict_byte}
use Rattle.csl.specs.Laws.Decided.{all_decided}
use Rattle.csl.specs.Laws.Ruling.{is_zero_or_one, ruled_verdict}
use Rattle.numbers.specs.Filled.{at, Table}
use Rattle.bounds.specs.Found.{decided_path, possible_path, certain_path}
use Rattle.verdicts.specs.Byte.{verdict_at, verdicts}
use Rattle.incoming_moves.specs.Shown.{IndexShows}
use Rattle.vectors.specs.Places.{values_from, owns_from, vector_length}
use Rattle.verdict_rows.specs.Row.{EndsIn}

-- the moves decide: the threshold is 0 or 1,000,000,000, and none of so many verdict bytes is undecided
unfoldable pub moves_decide : (p count : ℕ) → List ℕ → Bool
moves_decide p count rows = cond (is_zero_or_one p) (all_decided count (verdicts rows)) false

-- two rows hold the verdicts v and w
pub record Hold (v w : ℕ → Verdict) (n : ℕ) (rows : List ℕ) : Type 0 where
  pub first : (s : ℕ) → s < n → verdict_at (at rows s) ≡ v s
  pub second : (s : ℕ) → s < n → verdict_at (at rows (n + s)) ≡ w s

-- The row of a `P` with the threshold p over an until of t hundredths of an hour is to be judged by its ends or the moves: its ends stand in the
-- words, and if it may need a search the index of the chain's moves is there.
pub record JudgeAsked (ix l rows : List ℕ) (n t p : ℕ) : Type 0 where
  pub c : Chain
  pub of : c.states ≡ n
  pub states : n ≤ most_states
  pub few : length ix ≤ most_moves
  pub long : vector_length n ≤ length l
  pub clear : (k : ℕ) → k < n → at l (values_from n + k) ≡ 0
  pub index : p ≡ 0 → (t ≡ 0 → ⊥) → IndexShows c ix l (owns_from n) n
  pub ends : EndsIn n l
  pub held : n + n ≤ length rows

-- the verdict byte that follows from two ends, where its path's operands have the verdicts in o
abbrev pub following_byte : Chain → Comparison → (p : ℕ) → PathOf (ℕ → Verdict) → (s lower upper : ℕ) → ℕ
following_byte c r p o s lower upper =
    verdict_byte (ruled_verdict (decided_path c o) r p (possible_path c o s) (certain_path c o s) (judged r p lower upper))

-- It is, whatever the verdicts are that the two rows hold; the second row is left as it happens to be.
pub record Judges (c : Chain) (r : Comparison) (p : ℕ) (o : PathOf (ℕ → Verdict)) (n : ℕ) (l rows₀ rows : List ℕ) : Type 0 where
  pub same : length rows ≡ length rows₀
  pub row : (s : ℕ) → s < n → at rows s ≡ following_byte c r p o s (at l s) (at l (n + s))
  pub beyond : (k : ℕ) → n + n ≤ k → at rows k ≡ at rows₀ k

abbrev pub JudgeLeaves : {ix l rows : List ℕ} {n t p : ℕ} → JudgeAsked ix l rows n t p → Comparison → (rows' : List ℕ) → Type 0
JudgeLeaves {l = l} {rows = rows} {n = n} {t = t} {p = p} a r rows' = (v w : ℕ → Verdict) → Hold v w n rows → Judges a.c r p (until_of t v w) n l rows rows'

-- The moves are to be asked: they decide.
pub record AskAsked (ix l rows : List ℕ) (n t p : ℕ) : Type 0 where
  pub judge : JudgeAsked ix l rows n t p
  pub decide : moves_decide p (n + n) rows ≡ true

-- The second row says where what the threshold p asks for holds.
pub record Asks (c : Chain) (p : ℕ) (o : PathOf (ℕ → Verdict)) (n : ℕ) (rows₀ rows : List ℕ) : Type 0 where
  pub same : length rows ≡ length rows₀
  pub told : (s : ℕ) → s < n → as_no (verdict_at (at rows (n + s))) ≡ cond (eqb p 0) (possible_path c o s) (certain_path c o s)
  pub beyond : (k : ℕ) → n + n ≤ k → at rows k ≡ at rows₀ k

abbrev pub AskLeaves : {ix l rows : List ℕ} {n t p : ℕ} → AskAsked ix l rows n t p → (rows' : List ℕ) → Type 0
AskLeaves {rows = rows} {n = n} {t = t} {p = p} a rows' = (v w : ℕ → Verdict) → Hold v w n rows → Asks a.judge.c p (until_of t v w) n rows rows'

-- The row of a `P` over a next move is to be judged, and is: of such a path the ends show what is possible and what is certain.
pub record NextJudgeAsked (l row : List ℕ) (n : ℕ) : Type 0 where
  pub ends : EndsIn n l
  pub held : n ≤ length row

abbrev pub NextJudged : Comparison → (p n : ℕ) → (l row₀ row : List ℕ) → Type 0
NextJudged r p n l row₀ row =
    Table
    (λ s. verdict_byte (ruled_verdict (all_decided n (verdicts row₀)) r p (ltb 0 (at l (n + s))) (eqb (at l s) billion) (judged r p (at l s) (at l (n + s)))))
    row₀ row n
