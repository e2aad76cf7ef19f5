-- Laws of the sum and of the greatest of f 0 to f (n - 1). Assumes nothing.
use Rattle.std.specs.Prelude.{◌≡◌, refl, ℕ, zero, suc, ◌+◌, ◌*◌, ◌≤◌, ◌<◌}
use Rattle.std.proofs.Common.{arith, add-one, le_refl, ⊎_elim}
use Rattle.std.proofs.Math.Nat.{le-suc_iff}
use Rattle.csl.specs.Chain.{sum_to, greatest}
use Rattle.numbers.specs.Hint.{le_times}
pub use Rattle.csl.proofs.Laws.Sum.{sum_cong, sum_le, sum_none, sum_less, sum_term, sum_weighted, greatest_cong, greatest_le}

-- by the code's names
pub sum_zero : (f : ℕ → ℕ) → sum_to f 0 ≡ 0
unfolding sum_to
sum_zero f = refl

pub sum_next : (f : ℕ → ℕ) (n : ℕ) → sum_to f (n + 1) ≡ sum_to f n + f n
unfolding sum_to
sum_next f n = rw add-one

pub sum_add : (f g : ℕ → ℕ) (n : ℕ) → sum_to (λ k. f k + g k) n ≡ sum_to f n + sum_to g n
unfolding sum_to
sum_add f g zero = omega arith
sum_add f g (suc n) = omega (arith, sum_add f g n)

-- the greatest is at most what each is at most
pub greatest_most : (f : ℕ → ℕ) (m n : ℕ) → ((k : ℕ) → k < n → f k ≤ m) → greatest f n ≤ m
unfolding greatest
greatest_most f m zero h = omega arith
greatest_most f m (suc n) h =
    let r : (k : ℕ) → k < n → f k ≤ m = λ k l. h k (omega arith) in
    omega (arith, greatest_most f m n r, h n (omega arith))

pub sum_mono : (f : ℕ → ℕ) (i n : ℕ) → i ≤ n → sum_to f i ≤ sum_to f n
unfolding sum_to
sum_mono f i zero h = let e : i ≡ 0 = omega arith in rw e (le_refl _)
sum_mono f i (suc n) h =
    ⊎_elim (λ l. omega (arith, sum_mono f i n l)) (λ e. rw e (le_refl _)) (le-suc_iff.0 h)

pub sum_scale : (f : ℕ → ℕ) (m n : ℕ) → sum_to (λ k. f k * m) n ≡ sum_to f n * m
unfolding sum_to
sum_scale f m zero = omega arith
sum_scale f m (suc n) = omega (arith, sum_scale f m n)

-- weights times values of at most m, between two places
pub sum_weighted_from : (f g : ℕ → ℕ) (m i n : ℕ) → i ≤ n → ((k : ℕ) → k < n → g k ≤ m)
    → sum_to (λ k. f k * g k) n + sum_to f i * m ≤ sum_to (λ k. f k * g k) i + sum_to f n * m
unfolding sum_to
sum_weighted_from f g m i zero l h = let e : i ≡ 0 = omega arith in rw e (omega arith)
sum_weighted_from f g m i (suc n) l h =
    let r : (k : ℕ) → k < n → g k ≤ m = λ k b. h k (omega arith) in
    ⊎_elim (λ b. omega (arith, sum_weighted_from f g m i n b r, le_times (f n) (h n (omega arith)))) (λ e. rw e (omega arith))
    (le-suc_iff.0 l)

-- a running sum, begun with x before the terms from one place on: one term more, and that it fits where all of them do
pub running_is : (f : ℕ → ℕ) (sum x begin j : ℕ) → sum + sum_to f begin ≡ x + sum_to f j → sum + f j + sum_to f begin ≡ x + sum_to f (j + 1)
running_is f sum x begin j e = omega (arith, sum_next f j)

pub running_fits : (f : ℕ → ℕ) (sum x begin end j most : ℕ) → sum + sum_to f begin ≡ x + sum_to f j → x + sum_to f end < most + sum_to f begin → j < end
    → sum + f j < most
running_fits f sum x begin end j most e h l = omega (arith, sum_next f j, sum_mono f (j + 1) end (omega arith))

-- each term at most c
pub sum_most : (f : ℕ → ℕ) (c n : ℕ) → ((k : ℕ) → k < n → f k ≤ c) → sum_to f n ≤ n * c
unfolding sum_to
sum_most f c zero h = omega arith
sum_most f c (suc n) h =
    let r : (k : ℕ) → k < n → f k ≤ c = λ k l. h k (omega arith) in
    omega (arith, sum_most f c n r, h n (omega arith))
