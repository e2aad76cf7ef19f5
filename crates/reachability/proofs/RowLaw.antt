-- Where the row of a state begins. Assumes nothing.
use mathlib.Core.Path.{◌≡◌, refl}
use mathlib.Core.List.{List}
use Prim.Native.Nat.{ℕ, ◌-◌}
use borrow.Author.Tests.{eq-eqb, ne_eqb}
use Rattle.vectors.specs.Places.{index_end_at}
use Rattle.reachability.specs.Asked.{row_begin}

pub row_first : (l : List ℕ) (n t : ℕ) → t ≡ 0 → 0 ≡ row_begin l n t
unfolding row_begin
row_first l n t e = rw (eq-eqb t 0 e) refl

pub row_later : (l : List ℕ) (n t r : ℕ) → (t ≡ 0 → ⊥) → r ≡ index_end_at l n (t - 1) → r ≡ row_begin l n t
unfolding row_begin
row_later l n t r d e = rw (ne_eqb t 0 d) e

pub ruleset row_laws = (row_first, row_later)
