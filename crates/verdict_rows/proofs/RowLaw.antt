-- Rows whose bytes are set one by one, and a row each of whose bytes is looked at. Assumes nothing.
use Rattle.std.proofs.Common.{◌≡◌, refl, ℕ, zero, suc, ◌+◌, ◌-◌, ◌≤◌, ◌<◌, List, ◌++◌, take, length, get_or, ap, sym, ◌∙◌, arith, add-one, length-append, get_or-append-add}
use Rattle.std.proofs.lemmas.List.{get_or_append_left}
use Rattle.std.proofs.lemmas.List.Folds.{list_all_more}
use Rattle.std.specs.List.{list_all}
use Rattle.csl.specs.Laws.Decided.{is_decided, all_decided}
use Rattle.numbers.specs.Filled.{Table, table}
use Rattle.verdicts.specs.Byte.{verdict_at, verdicts}
use Rattle.verdict_rows.specs.Row.{RowBy}

-- a row is that of f, where f has all that may stand there
pub row_set : {f : ℕ → ℕ} {R : ℕ → ℕ → ℕ → Type 0} {n : ℕ} {old new : List ℕ} → RowBy R n old new
    → ((s : ℕ) → s < n → R s (get_or old s 0) (get_or new s 0) → get_or new s 0 ≡ f s) → Table f old new n
row_set b h = table b.same (λ s i. h s i (b.each s i)) b.rest

-- and so it is with the rest that was split from it
pub front_set : {f : ℕ → ℕ} {R : ℕ → ℕ → ℕ → Type 0} {n : ℕ} {old front new : List ℕ} (rest : List ℕ) → RowBy R n front new → old ≡ front ++ rest
    → length front ≡ n → ((s : ℕ) → s < n → get_or rest s 0 ≡ get_or old (n + s) 0 → R s (get_or old s 0) (get_or new s 0) → get_or new s 0 ≡ f s)
    → Table f old (new ++ rest) n
front_set {f} {R} {n} {old} {front} {new} rest b e l h =
    let at_rest : (s : ℕ) → get_or rest s 0 ≡ get_or old (n + s) 0 = λ s. sym (rw (e, ← l) (get_or-append-add front rest s 0)) in
    let at_front : (s : ℕ) → s < n → get_or old s 0 ≡ get_or front s 0 = λ s i. rw e (get_or_append_left front rest 0 s (omega arith)) in
    table (omega (arith, length-append new rest, length-append front rest, ap length e, b.same))
    (λ s i. get_or_append_left new rest 0 s (omega (arith, b.same)) ∙ h s i (at_rest s) (rw (at_front s i) (b.each s i)))
    (λ k i.
    let x : length new + (k - n) ≡ k = omega (arith, b.same) in
    let y : n + (k - n) ≡ k = omega arith in
    ap (λ j. get_or (new ++ rest) j 0) (sym x) ∙ get_or-append-add new rest (k - n) 0 ∙ at_rest (k - n) ∙ ap (λ j. get_or old j 0) y)

-- each of the first n bytes says yes or no
pub all_told : (row : List ℕ) (n : ℕ) → n ≤ length row → list_all (λ b. is_decided (verdict_at b)) (take n row) ≡ all_decided n (verdicts row)
unfolding all_decided
all_told row zero h = refl
all_told row (suc n) h =
    ap (λ k. list_all (λ b. is_decided (verdict_at b)) (take k row)) (sym (add-one n))
    ∙ list_all_more (λ b. is_decided (verdict_at b)) row n 0 (omega arith) ∙ rw (all_told row n (omega arith)) refl
