-- The ends where an operand holds, and 0 elsewhere. Assumes nothing.
use mathlib.Core.Path.{◌≡◌, refl, ◌∙◌}
use mathlib.Core.Bool.{Bool, true, false, cond}
use mathlib.Core.List.{List}
use Prim.Native.Nat.{ℕ, ◌+◌, ◌<◌}
use native.Mathlib.Omega.{arith}
use lib.ListN.{set}
use lib.Seq.{get_or-set_other}
use Rattle.verdicts.specs.Byte.{verdict_at}
use Rattle.vectors.specs.Places.{at}
use Rattle.until.specs.Reading.{verdicts, read_as}
use Rattle.vectors.specs.Storing as ends

abbrev pub Inv : (l₀ l first : List ℕ) (n s : ℕ) → Type 0
Inv l₀ l first n s =
    ends.Inv (λ g. cond (read_as false (verdicts first g)) (at l₀ g) 0) (λ g. cond (read_as true (verdicts first g)) (at l₀ (n + g)) 0) l₀ l n s

module _ (first : List ℕ) {l₀ l : List ℕ} {n s : ℕ} (v : Inv l₀ l first n s) (h : s < n) where
  pub turn : (x y : ℕ) (a b : Bool) → a ≡ read_as false (verdict_at (at first s)) → x ≡ cond a (at l s) 0 → b ≡ read_as true (verdict_at (at first s))
      → y ≡ cond b (at (set l s x) (n + s)) 0 → Inv l₀ (set (set l s x) (n + s) y) first n (s + 1)
  turn x y a b e i f j =
      ends.turn v h x y (i ∙ rw (e, ends.lower_was v h) refl)
      (j ∙ rw (f, get_or-set_other l s (n + s) x 0 (omega arith), ends.upper_was v h) refl)
