-- Laws of a column, f 0 to f (n - 1), and of a buffer whose first numbers are written over. Assumes nothing.
use Rattle.std.specs.Prelude.{◌≡◌, refl, List, ℕ, zero, suc, ◌≤◌, ◌<◌, length, get_or, drop}
use Rattle.std.proofs.Common.{ap, ◌∙◌, arith, length-append, length-drop}
use Rattle.std.proofs.Math.ListN.{get_or-append}
use Rattle.csl.specs.Lent.{column, written}
use Rattle.numbers.specs.Filled.{column_at}
-- a column's length, for those that build on this crate
pub use Rattle.numbers.specs.Filled.{column_length}

-- only the values below n count
column_cong : (f g : ℕ → ℕ) (n : ℕ) → ((s : ℕ) → s < n → f s ≡ g s) → column f n ≡ column g n
unfolding column
column_cong f g zero h = refl
column_cong f g (suc n) h = rw (column_cong f g n (λ s i. h s (omega arith)), h n (omega arith))

-- a buffer into which a column of f is written has one of g, where the two agree below n
pub column_as : (f g : ℕ → ℕ) (n : ℕ) (old : List ℕ) {new : List ℕ} → ((s : ℕ) → s < n → f s ≡ g s)
    → new ≡ written (column f n) old → new ≡ written (column g n) old
column_as f g n old h e = e ∙ ap (λ l. written l old) (column_cong f g n h)

-- a buffer that is written over keeps its length
pub written_length : (new old : List ℕ) → length new ≤ length old → length (written new old) ≡ length old
unfolding written
written_length new old h = length-append new (drop (length new) old) ∙ omega (arith, length-drop (length new) old)

-- the number at each place of a column that is written
pub written_at_lem : (f : ℕ → ℕ) (n : ℕ) (old : List ℕ) (s : ℕ) → s < n → get_or (written (column f n) old) s 0 ≡ f s
unfolding written
written_at_lem f n old s h =
    get_or-append (column f n) _ 0 s (omega (arith, column_length f n)) ∙ column_at f n s h
