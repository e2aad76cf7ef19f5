-- Ends that are left over others; two operands' rows; and a row with 0 behind it. Assumes nothing.
use mathlib.Core.Path.{◌≡◌, ◌∙◌}
use mathlib.Core.List.{List}
use Prim.Native.Nat.{ℕ, ◌+◌, ◌<◌}
use native.Mathlib.Omega.{arith}
use Rattle.numbers.specs.Filled.{at, Filled, Table, Twin, table_at, filled_else}
use Rattle.vectors.specs.Places.{EndsStored}

-- ends over ends
pub ends_over : {f g f' g' : ℕ → ℕ} {n : ℕ} {x y z : List ℕ} → EndsStored f g n x y → EndsStored f' g' n y z → EndsStored f' g' n x z
ends_over b b' = record { same = b'.same ∙ b.same; lowers = b'.lowers; uppers = b'.uppers; after = λ k h. b'.after k h ∙ b.after k h }

pub ends_as : {f g : ℕ → ℕ} {n : ℕ} {x y : List ℕ} (f' g' : ℕ → ℕ) → ((s : ℕ) → s < n → f s ≡ f' s) → ((s : ℕ) → s < n → g s ≡ g' s)
    → EndsStored f g n x y → EndsStored f' g' n x y
ends_as f' g' h k b = record { same = b.same; lowers = λ s i. b.lowers s i ∙ h s i; uppers = λ s i. b.uppers s i ∙ k s i; after = b.after }

-- the first operand's row, then the second's
module _ {v w : ℕ → ℕ} {n : ℕ} {m₀ m₁ m₂ : List ℕ} (t : Table v m₀ m₁ n) (u : Filled w n n m₁ m₂) where
  pub first_row : (s : ℕ) → s < n → at m₂ s ≡ v s
  first_row s h = u.before s h ∙ table_at t s h

  pub second_row : (s : ℕ) → s < n → at m₂ (n + s) ≡ w s
  second_row s h = u.filled s h

-- a row, and 0 in the one behind it, that was put there before or after
pub cleared_row : {f : ℕ → ℕ} {n : ℕ} {x y z : List ℕ} → Filled (λ s. 0) n n x y → Table f y z n → Twin f (λ s. 0) 0 n n x z
cleared_row u t =
    record {
      same = t.same ∙ u.same;
      first = λ k b. t.filled k b;
      second = λ k b. t.after _ (omega arith) ∙ u.filled k b;
      else = λ k a b. filled_else t k a ∙ filled_else u k b;
    }

pub row_cleared : {f : ℕ → ℕ} {n : ℕ} {x y z : List ℕ} → Table f x y n → Filled (λ s. 0) n n y z → Twin f (λ s. 0) 0 n n x z
row_cleared t u =
    record {
      same = u.same ∙ t.same;
      first = λ k b. u.before _ (omega arith) ∙ t.filled k b;
      second = u.filled;
      else = λ k a b. filled_else u k b ∙ filled_else t k a;
    }
