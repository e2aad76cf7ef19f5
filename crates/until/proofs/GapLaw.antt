-- How far apart two starts are at most, and what it says of them. Assumes nothing.
use mathlib.Core.Path.{◌≡◌, refl, ap, ◌∙◌}
use mathlib.Core.Bool.{Bool, true, false, false≢true, and-false, and-eq-true_iff}
use mathlib.Core.List.{List}
use mathlib.Core.Logic.{⊎_elim}
use Prim.Native.Nat.{ℕ, zero, suc, ◌+◌, ◌-◌, ◌≤◌, ◌<◌, max}
use native.Mathlib.Omega.{arith}
use native.Mathlib.Nat.{le-suc_iff}
use native.Mathlib.Numerals.{add-one}
use lib.Dec.{leb}
use borrow.Author.Tests.{ne_eqb}
use Rattle.std.proofs.lemmas.Grind.{common_steps}
use Rattle.std.specs.Ordering.{ord_max, nat_cmp}
use Rattle.csl.specs.Chain.{greatest}
use Rattle.csl.specs.Verdicts.{Decided}
use Rattle.csl.specs.Laws.Decided.{all_decided}
use Rattle.csl.proofs.Laws.Decided.{all_decided_lem, decided_all}
use Rattle.numbers.specs.Sum.{greatest_cong, greatest_most}
use Rattle.bounds.specs.StepValues.{most_gap, gap_of}
use Rattle.bounds.proofs.StepValues.{verdict_at}
use Rattle.vectors.specs.Places.{at}
use Rattle.until.specs.Reading.{verdicts}
use Rattle.until.specs.Asked.{start_gap}

-- a byte is decided where it is 0 or 1
small_decided : (b : ℕ) → b ≤ 1 → Decided (verdict_at b)
small_decided zero h = tt
small_decided (suc zero) h = tt
small_decided (suc (suc b)) h = absurd (omega arith)

decided_small : (b : ℕ) → Decided (verdict_at b) → b ≤ 1
decided_small zero h = omega arith
decided_small (suc zero) h = omega arith
decided_small (suc (suc b)) h = absurd (rw (ne_eqb (suc (suc b)) 0 (omega arith), ne_eqb (suc (suc b)) 1 (omega arith)) at h)

-- a row with another byte is not
row_open : (row : List ℕ) (n s : ℕ) → s < n → 1 < at row s → all_decided n (verdicts row) ≡ false
row_open row n s h k = by (all_decided n (verdicts row)) refl
  where
    by : (b : Bool) → all_decided n (verdicts row) ≡ b → all_decided n (verdicts row) ≡ false
    by true e = absurd (omega (arith, decided_small (at row s) (all_decided_lem n (verdicts row) e s h)))
    by false e = e

-- the bytes before s are decided, and the gap is the greatest there
pub record GapTo (l first second : List ℕ) (n gap s : ℕ) : Type 0 where
  pub by_first : (k : ℕ) → k < s → Decided (verdicts first k)
  pub by_second : (k : ℕ) → k < s → Decided (verdicts second k)
  pub so_far : gap ≡ greatest (λ k. at l (n + k) - at l k) s

pub start : (l first second : List ℕ) (n : ℕ) → GapTo l first second n 0 0
unfolding greatest
start l first second n = record { by_first = λ k h. absurd (omega arith); by_second = λ k h. absurd (omega arith); so_far = refl }

-- the library's greater of two numbers
pub max_is : (a b : ℕ) → ord_max nat_cmp a b ≡ max a b
max_is a b = grind (arith, common_steps)

-- one decided byte more
decided_more : (row : List ℕ) (s : ℕ) → ((k : ℕ) → k < s → Decided (verdicts row k)) → at row s ≤ 1
    → (k : ℕ) → k < s + 1 → Decided (verdicts row k)
decided_more row s old h k c =
    ⊎_elim (old k) (λ (i : suc k ≡ suc s). let z : k ≡ s = omega arith in rw z (small_decided (at row s) h)) (le-suc_iff.0 (rw add-one at c))

pub turn : {l first second : List ℕ} {n gap s : ℕ} → GapTo l first second n gap s → (r : ℕ) → at first s ≤ 1 → at second s ≤ 1
    → r ≡ max gap (at l (n + s) - at l s) → GapTo l first second n r (s + 1)
unfolding greatest
turn {first = first} {second = second} {s = s} v r a b e =
    record {
      by_first = decided_more first s v.by_first a;
      by_second = decided_more second s v.by_second b;
      so_far = rw (add-one s, ← v.so_far) e;
    }

-- a byte that is not decided
module _ (l first second : List ℕ) {n s : ℕ} (h : s < n) where
  pub first_open : 1 < at first s → suc most_gap ≡ start_gap l first second n
  unfolding gap_of
  first_open a = rw (row_open first n s h a) refl

  pub second_open : 1 < at second s → suc most_gap ≡ start_gap l first second n
  unfolding gap_of
  second_open a = rw (row_open second n s h a, and-false (all_decided n (verdicts first))) refl

pub finish : {l first second : List ℕ} {n gap s : ℕ} → GapTo l first second n gap s → s ≤ n → n ≤ s → gap ≡ start_gap l first second n
unfolding gap_of
finish {l = l} {first = first} {second = second} {n = n} {s = s} v b h =
    let z : s ≡ n = omega arith in
    rw (
      decided_all n (verdicts first) (λ k c. v.by_first k (omega arith)),
      decided_all n (verdicts second) (λ k c. v.by_second k (omega arith)),
    )
    (v.so_far ∙ ap (greatest (λ k. at l (n + k) - at l k)) z)

pub ruleset gap_laws = (start, turn, first_open, second_open, finish)

-- starts that are the same have one gap
pub gap_same : (d d' : Bool) (lower upper lower' upper' : ℕ → ℕ) (n : ℕ) → d ≡ d' → ((s : ℕ) → s < n → lower s ≡ lower' s)
    → ((s : ℕ) → s < n → upper s ≡ upper' s) → gap_of d lower upper n ≡ gap_of d' lower' upper' n
unfolding gap_of
gap_same d d' lower upper lower' upper' n e f g =
    rw (e, greatest_cong (λ s. upper s - lower s) (λ s. upper' s - lower' s) n (λ s h. rw (f s h, g s h) refl)) refl

-- near starts are decided
near_by : (d : Bool) (lower upper : ℕ → ℕ) (n : ℕ) → leb (gap_of d lower upper n) most_gap ≡ true → d ≡ true
unfolding gap_of
near_by true lower upper n e = refl
near_by false lower upper n e = absurd (false≢true e)

module _ (l first second : List ℕ) (n : ℕ) (e : leb (start_gap l first second n) most_gap ≡ true) where
  rows_decided : (all_decided n (verdicts first) ≡ true) × (all_decided n (verdicts second) ≡ true)
  rows_decided = (and-eq-true_iff _ _).0 (near_by _ (at l) (λ s. at l (n + s)) n e)

  pub first_decided : (s : ℕ) → s < n → Decided (verdicts first s)
  first_decided = all_decided_lem n (verdicts first) rows_decided.0

  pub second_decided : (s : ℕ) → s < n → Decided (verdicts second s)
  second_decided = all_decided_lem n (verdicts second) rows_decided.1

  -- and the same ends have none
  pub near_none : ((s : ℕ) → s < n → at l s ≡ at l (n + s)) → start_gap l first second n ≡ 0
  unfolding gap_of
  near_none h =
      rw (rows_decided.0, rows_decided.1)
      (omega (arith, greatest_most (λ s. at l (n + s) - at l s) 0 n (λ s c. omega (arith, h s c))))
