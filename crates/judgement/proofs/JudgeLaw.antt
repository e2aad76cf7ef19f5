-- The row of a `P`, judged by the moves or by its ends. Assumes nothing.
use mathlib.Core.Path.{◌≡◌, refl, ap, sym, ◌∙◌}
use mathlib.Core.Bool.{Bool, true, false, cond, ◌&&◌, false≢true, and-eq-true_iff}
use mathlib.Core.List.{List}
use Prim.Native.Nat.{ℕ, ◌+◌, ◌-◌, ◌<◌}
use native.Mathlib.Omega.{arith}
use lib.Dec.{eqb, ltb}
use borrow.Author.Tests.{ne_eqb, ltb-true, ltb-false}
use Rattle.csl.specs.Limits.{billion}
use Rattle.csl.specs.Formula.{Comparison, until_of}
use Rattle.csl.specs.Chain.{Chain}
use Rattle.csl.specs.Verdicts.{Verdict, Decided, as_no, least, marked}
use Rattle.csl.specs.Graph.{Leads, Tells}
use Rattle.csl.specs.Lent.{verdict_byte}
use Rattle.csl.specs.Laws.Decided.{all_decided}
use Rattle.csl.proofs.Laws.Decided.{all_decided_lem, decided_all}
use Rattle.csl.proofs.Laws.Verdicts.{as_no_mark}
use Rattle.csl.proofs.Laws.Graph.{SameOn, same_back, possible_same}
use Rattle.csl.proofs.Laws.Ruled.{tells_one, tells_same}
use Rattle.csl.specs.Laws.Ruling.{is_zero_or_one, possible_verdict, certain_verdict, moves_verdict}
use Rattle.csl.specs.Laws.Search.{leads_in}
use Rattle.csl.proofs.Laws.Search.{leads_told}
use Rattle.numbers.specs.Filled.{at, Table, table_at, table_rest, filled_as}
use Rattle.bounds.specs.Found.{decided_path, possible_path, certain_path}
use Rattle.verdicts.specs.Byte.{verdict_at, verdicts}
use Rattle.reachability.specs.Searched.{SearchAsked, Searched}
use Rattle.verdict_rows.specs.Byte.{judged_byte, told_byte, next_byte, next_told}
use Rattle.judgement.specs.Judged.{moves_decide, Hold, JudgeAsked, JudgeLeaves, AskAsked, Asks, AskLeaves, NextJudged}

-- what the moves decide
pub decide_both : (p count : ℕ) (rows : List ℕ) → moves_decide p count rows ≡ true → (is_zero_or_one p ≡ true) × (all_decided count (verdicts rows) ≡ true)
unfolding moves_decide
decide_both p count rows h = go (is_zero_or_one p) refl h
  where
    go : (z : Bool) → is_zero_or_one p ≡ z → cond z (all_decided count (verdicts rows)) false ≡ true → (is_zero_or_one p ≡ true) × (all_decided count (verdicts rows) ≡ true)
    go true e k = (e, k)
    go false e k = absurd (false≢true k)

same_tests : (a b c : Bool) → (c ≡ true → a ≡ true) → (a ≡ true → c ≡ true) → cond b c false ≡ cond a b false
same_tests true true c h k = k refl
same_tests true false c h k = refl
same_tests false true true h k = sym (h refl)
same_tests false true false h k = refl
same_tests false false c h k = refl

-- two rows that hold v and w, on the states of the chain
module _ (c : Chain) (v w : ℕ → Verdict) (n : ℕ) (rows : List ℕ) (is : c.states ≡ n) (h : Hold v w n rows) where
  both_rows : all_decided (n + n) (verdicts rows) ≡ true → (all_decided n v && all_decided n w) ≡ true
  both_rows d =
      (and-eq-true_iff (all_decided n v) (all_decided n w)).1 (
        decided_all n v (λ s l. rw (← h.first s l) (all_decided_lem (n + n) (verdicts rows) d s (omega arith))),
        decided_all n w (λ s l. rw (← h.second s l) (all_decided_lem (n + n) (verdicts rows) d (n + s) (omega arith))),
      )

  -- the test of the bytes is that of the rule
  rows_both : (all_decided n v && all_decided n w) ≡ true → all_decided (n + n) (verdicts rows) ≡ true
  rows_both e =
      let k = (and-eq-true_iff (all_decided n v) (all_decided n w)).0 e in
      decided_all (n + n) (verdicts rows) λ s l. go k.0 k.1 s l (ltb s n) refl
    where
      go : all_decided n v ≡ true → all_decided n w ≡ true → (s : ℕ) → s < n + n → (b : Bool) → ltb s n ≡ b → Decided (verdicts rows s)
      go i j s l true e = rw (h.first s (ltb-true s n e)) (all_decided_lem n v i s (ltb-true s n e))
      go i j s l false e =
          let m : n + (s - n) ≡ s = omega (arith, ltb-false s n e) in
          rw (← m) (rw (h.second (s - n) (omega arith)) (all_decided_lem n w j (s - n) (omega arith)))

  -- so they decide where the rule has it
  decide_is : (p t : ℕ) → cond (decided_path c (until_of t v w)) (is_zero_or_one p) false ≡ moves_decide p (n + n) rows
  unfolding moves_decide
  decide_is p t = rw is (sym (same_tests (all_decided n v && all_decided n w) (is_zero_or_one p) (all_decided (n + n) (verdicts rows)) both_rows rows_both))

  -- the operands hold where the bytes say so
  same_first : SameOn c (λ u. as_no (verdict_at (at rows u))) (least v)
  same_first s l = ap as_no (h.first s (omega (arith, is)))

  same_second : SameOn c (λ u. as_no (verdict_at (at rows (n + u)))) (least w)
  same_second s l = ap as_no (h.second s (omega (arith, is)))

  -- what a search leaves is what leads
  searched_told : (s : ℕ) → s < n → (x : Verdict)
      → Tells x (Leads c (λ u. as_no (verdict_at (at rows u))) (λ u. as_no (verdict_at (at rows (n + u)))) s)
      → as_no x ≡ leads_in c (least v) (least w) c.states s
  searched_told s l x k =
      let i : s < c.states = omega (arith, is) in
      let y : ℕ → Bool = λ u. as_no (verdict_at (at rows u)) in
      let z : ℕ → Bool = λ u. as_no (verdict_at (at rows (n + u))) in
      ap as_no
      (tells_one (Leads c (least v) (least w) s) x (marked (leads_in c (least v) (least w) c.states s))
      (tells_same (Leads c y z s) (Leads c (least v) (least w) s) x (possible_same c y z (least v) (least w) same_first same_second 1 s i)
      (possible_same c (least v) (least w) y z (same_back c y (least v) same_first) (same_back c z (least w) same_second) 1 s i) k)
      (leads_told c (least v) (least w) s i))
      ∙ as_no_mark (leads_in c (least v) (least w) c.states s)

-- asking the moves
module _ {ix l rows : List ℕ} {n t p : ℕ} (a : AskAsked ix l rows n t p) where
  abbrev pub may_search : p ≡ 0 → (t ≡ 0 → ⊥) → SearchAsked ix l rows n
  may_search z e =
      record {
        c = a.judge.c;
        states = a.judge.states;
        few = a.judge.few;
        long = a.judge.long;
        clear = a.judge.clear;
        shows = a.judge.index z e;
        held = a.judge.held;
        decided = all_decided_lem (n + n) (verdicts rows) (decide_both p (n + n) rows a.decide).1;
      }

  -- with 0, and a time above 0, by a search
  pub asked_search : {rows' : List ℕ} → p ≡ 0 → (t ≡ 0 → ⊥) → ((b : SearchAsked ix l rows n) → Searched b.c n rows rows') → AskLeaves a rows'
  asked_search {rows'} z e f v w h =
      let g : Searched a.judge.c n rows rows' = f (may_search z e) in
      record {
        same = g.same;
        told = λ s b. searched_told a.judge.c v w n rows a.judge.of h s b (verdict_at (at rows' (n + s))) (g.tells s b) ∙ rw (z, ne_eqb t 0 e) refl;
        beyond = g.beyond;
      }

pub ruleset ask_laws = (may_search, asked_search)

-- judging
moves_one : (r : Comparison) (p : ℕ) (b possible certain : Bool) → b ≡ cond (eqb p 0) possible certain → moves_verdict r p b b ≡ moves_verdict r p possible certain
moves_one r p b possible certain = go (eqb p 0)
  where
    go : (z : Bool) → b ≡ cond z possible certain → cond z (possible_verdict r b) (certain_verdict r b) ≡ cond z (possible_verdict r possible) (certain_verdict r certain)
    go true e = rw e refl
    go false e = rw e refl

module _ {ix l rows : List ℕ} {n t p : ℕ} (a : JudgeAsked ix l rows n t p) {b : Bool} (e : b ≡ moves_decide p (n + n) rows) where
  -- by the moves
  module _ (d : b ≡ true) where
    abbrev pub may_ask : AskAsked ix l rows n t p
    may_ask = record { judge = a; decide = sym e ∙ d }

    module _ {rows₁ : List ℕ} (f : (k : AskAsked ix l rows n t p) → AskLeaves k rows₁) (r : Comparison) where
      pub judged_by_moves : {rows₂ : List ℕ} → Table (λ s. told_byte r p (at rows₁ (n + s))) rows₁ rows₂ n → JudgeLeaves a r rows₂
      unfolding told_byte
      judged_by_moves j v w h =
          let g : Asks a.c p (until_of t v w) n rows rows₁ = f may_ask v w h in
          let decided : cond (decided_path a.c (until_of t v w)) (is_zero_or_one p) false ≡ true
          = decide_is a.c v w n rows a.of h p t ∙ sym e ∙ d in
          record {
            same = j.same ∙ g.same;
            row = λ s i.
                table_at j s i
                ∙ ap verdict_byte (moves_one r p _ (possible_path a.c (until_of t v w) s) (certain_path a.c (until_of t v w) s) (g.told s i))
                ∙ rw decided refl;
            beyond = λ k i. table_rest j k (omega arith) ∙ g.beyond k i;
          }

  -- by the ends
  pub judged_by_ends : (r : Comparison) → b ≡ false → {rows' : List ℕ} → Table (λ s. judged_byte r p (at l s) (at l (n + s))) rows rows' n → JudgeLeaves a r rows'
  unfolding judged_byte
  judged_by_ends r d j v w h =
      let decided : cond (decided_path a.c (until_of t v w)) (is_zero_or_one p) false ≡ false
      = decide_is a.c v w n rows a.of h p t ∙ sym e ∙ d in
      record { same = j.same; row = λ s i. table_at j s i ∙ rw decided refl; beyond = λ k i. table_rest j k (omega arith) }

pub ruleset judge_laws = (judged_by_moves, judged_by_ends)

-- a next move
one_test : (a b : Bool) → cond a b false ≡ cond b a false
one_test true true = refl
one_test true false = refl
one_test false true = refl
one_test false false = refl

module _ (l row : List ℕ) (n : ℕ) (r : Comparison) (p : ℕ) {b : Bool} (e : b ≡ moves_decide p n row) where
  decided_is : cond (all_decided n (verdicts row)) (is_zero_or_one p) false ≡ b
  unfolding moves_decide
  decided_is = one_test (all_decided n (verdicts row)) (is_zero_or_one p) ∙ sym e

  pub next_by_moves : b ≡ true → {row' : List ℕ} → Table (λ s. told_byte r p (next_byte p (at l s) (at l (n + s)))) row row' n → NextJudged r p n l row row'
  unfolding told_byte
  next_by_moves d j =
      filled_as _
      (λ s i. ap verdict_byte (moves_one r p _ (ltb 0 (at l (n + s))) (eqb (at l s) billion) (next_told p (at l s) (at l (n + s)))) ∙ rw (decided_is ∙ d) refl) j

  pub next_by_ends : b ≡ false → {row' : List ℕ} → Table (λ s. judged_byte r p (at l s) (at l (n + s))) row row' n → NextJudged r p n l row row'
  unfolding judged_byte
  next_by_ends d j = filled_as _ (λ s i. rw (decided_is ∙ d) refl) j

pub ruleset next_judge_laws = (next_by_moves, next_by_ends)
