-- A list filled from the back: of the entries from p on, those from i to before n are those of a function, and all else is as it was.
-- Assumes nothing.
use mathlib.Core.Path.{◌≡◌, sym, ◌∙◌}
use mathlib.Core.List.{List}
use mathlib.Core.Logic.{⊎_elim}
use Prim.Native.Nat.{ℕ, suc, ◌+◌, ◌≤◌, ◌<◌}
use native.Mathlib.Omega.{arith}
use native.Mathlib.Nat.{eq-or-lt_of_le}
use lib.ListN.{length, set, length-set}
use lib.Seq.{get_or-set_same, get_or-set_other}
use Rattle.numbers.specs.Filled.{at, Filled}

pub record Span (f : ℕ → ℕ) (p : ℕ) (l₀ l : List ℕ) (i n : ℕ) : Type 0 where
  pub same : length l ≡ length l₀
  pub filled : (k : ℕ) → i ≤ k → k < n → at l (p + k) ≡ f k
  pub before : (k : ℕ) → k < p + i → at l k ≡ at l₀ k
  pub after : (k : ℕ) → p + n ≤ k → at l k ≡ at l₀ k

-- one more in front
pub span_more : {f : ℕ → ℕ} {p : ℕ} {l₀ l : List ℕ} {i n : ℕ} (v : ℕ) → Span f p l₀ l (suc i) n → suc i ≤ n → p + i < length l → v ≡ f i
    → Span f p l₀ (set l (p + i) v) i n
span_more {f} {p} {l₀} {l} {i} {n} v t w h e =
    record {
      same = length-set l (p + i) v ∙ t.same;
      filled = λ k b c. ⊎_elim
          (λ g. let y : k ≡ i = sym g in rw y (get_or-set_same l (p + i) v 0 h ∙ e))
          (λ g. get_or-set_other l (p + i) (p + k) v 0 (omega arith) ∙ t.filled k g c)
          (eq-or-lt_of_le b);
      before = λ k b. get_or-set_other l (p + i) k v 0 (omega arith) ∙ t.before k (omega arith);
      after = λ k b. get_or-set_other l (p + i) k v 0 (omega arith) ∙ t.after k b;
    }

-- filled to the front
pub span_done : {f : ℕ → ℕ} {p : ℕ} {l₀ l : List ℕ} {i n : ℕ} → Span f p l₀ l i n → i ≤ 0 → Filled f p n l₀ l
span_done t h =
    record {
      same = t.same;
      filled = λ k b. t.filled k (omega arith) b;
      before = λ k b. t.before k (omega arith);
      after = t.after;
    }
