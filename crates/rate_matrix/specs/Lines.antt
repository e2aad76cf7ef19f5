-- A row summed over the states is the sum over the lines that leave the state. Assumes nothing.
use Rattle.std.specs.Prelude.{◌≡◌, refl, Bool, true, false, cond, List, ℕ, zero, suc, ◌+◌, ◌*◌, ◌≤◌, ◌<◌, eqb}
use Rattle.std.proofs.Common.{sym, ◌∙◌, ⊎_elim, arith, ne_of_gt, eq-or-lt_of_le, le_of_suc-le-suc, eq-eqb, ne_eqb}
use Rattle.csl.specs.Chain.{sum_to}
use Rattle.numbers.specs.Hint.{le_times}
use Rattle.numbers.specs.Sum.{sum_cong, sum_add, sum_le, sum_scale}
use Rattle.rate_matrix.specs.Words.{from_of, to_of, rate_of, out_of, rate_between, exit_of, pull, flow}

nothing : (v : ℕ → ℕ) (n : ℕ) → sum_to (λ g. 0 * v g) n ≡ 0
unfolding sum_to
nothing v zero = refl
nothing v (suc n) = omega (arith, nothing v n)

-- a sum with one term
single_before : (x r : ℕ) (v : ℕ → ℕ) (n : ℕ) → n ≤ x → sum_to (λ g. cond (eqb x g) r 0 * v g) n ≡ 0
unfolding sum_to
single_before x r v zero h = refl
single_before x r v (suc n) h = rw (single_before x r v n (omega arith), ne_eqb x n (ne_of_gt h)) (omega arith)

single : (x r : ℕ) (v : ℕ → ℕ) (n : ℕ) → x < n → sum_to (λ g. cond (eqb x g) r 0 * v g) n ≡ r * v x
unfolding sum_to
single x r v zero h = absurd (omega arith)
single x r v (suc n) h =
    ⊎_elim
    (λ e. let y : n ≡ x = sym e in rw (y, single_before x r v x (omega arith), eq-eqb x x refl) (omega arith))
    (λ l. rw (single x r v n l, ne_eqb x n (λ e. absurd (omega arith))) (omega arith))
    (eq-or-lt_of_le (le_of_suc-le-suc h))

single_if : (t : Bool) (x r : ℕ) (v : ℕ → ℕ) (n : ℕ) → x < n → sum_to (λ g. cond t (cond (eqb x g) r 0) 0 * v g) n ≡ cond t (r * v x) 0
single_if true x r v n h = single x r v n h
single_if false x r v n h = nothing v n

pub by_lines : (mv : List ℕ) (v : ℕ → ℕ) (s n m : ℕ) → ((j : ℕ) → j < m → to_of mv j < n)
    → sum_to (λ g. rate_between mv m s g * v g) n ≡ flow mv m v s
unfolding sum_to rate_between flow
by_lines mv v s n zero h = nothing v n
by_lines mv v s n (suc m) h =
    sum_cong (λ g. rate_between mv (suc m) s g * v g) (λ g. rate_between mv m s g * v g + out_of mv s (λ j. cond (eqb (to_of mv j) g) (rate_of mv j) 0) m * v g) n
    (λ g l. omega arith)
    ∙ sum_add (λ g. rate_between mv m s g * v g) (λ g. out_of mv s (λ j. cond (eqb (to_of mv j) g) (rate_of mv j) 0) m * v g) n
    ∙ rw (by_lines mv v s n m (λ j l. h j (omega arith)), single_if (eqb (from_of mv m) s) (to_of mv m) (rate_of mv m) v n (h m (omega arith))) refl

-- a rate times 1 is the rate
once : (t : Bool) (r : ℕ) → cond t (r * 1) 0 ≡ cond t r 0
once true r = omega arith
once false r = refl

-- the rates to all states add up to the exit rate
pub exit_by_lines : (mv : List ℕ) (s n m : ℕ) → ((j : ℕ) → j < m → to_of mv j < n) → sum_to (rate_between mv m s) n ≡ exit_of mv m s
unfolding flow exit_of
exit_by_lines mv s n m h =
    sum_cong (rate_between mv m s) (λ g. rate_between mv m s g * 1) n (λ g l. omega arith)
    ∙ by_lines mv (λ g. 1) s n m h
    ∙ sum_cong (out_of mv s (pull mv (λ g. 1))) (out_of mv s (rate_of mv)) m (λ j l. once (eqb (from_of mv j) s) (rate_of mv j))

-- values that agree on the states flow alike
flow_term : (t : Bool) (r x y : ℕ) → x ≡ y → cond t (r * x) 0 ≡ cond t (r * y) 0
flow_term t r x y e = rw e refl

pub flow_cong : (mv : List ℕ) (v u : ℕ → ℕ) (s n m : ℕ) → ((j : ℕ) → j < m → to_of mv j < n) → ((g : ℕ) → g < n → v g ≡ u g)
    → flow mv m v s ≡ flow mv m u s
unfolding flow
flow_cong mv v u s n m h e =
    sum_cong (out_of mv s (pull mv v)) (out_of mv s (pull mv u)) m
    (λ j l. flow_term (eqb (from_of mv j) s) (rate_of mv j) (v (to_of mv j)) (u (to_of mv j)) (e (to_of mv j) (h j l)))

-- and where none is over a limit, what flows is at most the exit rate times it
pull_most : (t : Bool) (r x most : ℕ) → x ≤ most → cond t (r * x) 0 ≤ cond t r 0 * most
pull_most true r x most h = omega (arith, le_times r h)
pull_most false r x most h = omega arith

pub flow_most : (mv : List ℕ) (m n : ℕ) (v : ℕ → ℕ) (s most : ℕ) → ((j : ℕ) → j < m → to_of mv j < n) → ((g : ℕ) → g < n → v g ≤ most)
    → flow mv m v s ≤ exit_of mv m s * most
unfolding flow exit_of
flow_most mv m n v s most h k =
    omega (
      arith,
      sum_le (out_of mv s (pull mv v)) (λ j. out_of mv s (rate_of mv) j * most) m
          (λ j l. pull_most (eqb (from_of mv j) s) (rate_of mv j) (v (to_of mv j)) most (k (to_of mv j) (h j l))),
      sum_scale (out_of mv s (rate_of mv)) most m,
    )
