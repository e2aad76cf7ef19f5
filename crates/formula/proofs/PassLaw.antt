-- A test of each of a formula's nodes. Assumes nothing.
use mathlib.Core.Path.{◌≡◌, refl, ◌∙◌}
use Prim.Native.Nat.{ℕ, zero, suc, ◌≤◌}
use native.Mathlib.Omega.{arith}
use mathlib.Core.Bool.{Bool, ◌&&◌, and-true, and_assoc}
use mathlib.Core.List.{List, [], ◌∷◌}
use lib.ListN.{length, take}
use Rattle.std.specs.List.{list_all}
use Rattle.formula.specs.declared.nodes.Kind.{Kind}
use Rattle.formula.specs.Pass.{Test, passed, place_passed, all_below}

-- what holds below n + 1 holds of the first and, one place on, below n
below_first : (p : ℕ → Bool) (n : ℕ) → all_below p (suc n) ≡ p 0 && all_below (λ k. p (suc k)) n
unfolding all_below
below_first p zero = rw and-true
below_first p (suc n) = rw (below_first p n, and_assoc)

all_listed : (test : Test) (ns : List Kind) (n : ℕ) → n ≤ length ns → list_all (passed test) (take n ns) ≡ all_below (place_passed test ns) n
unfolding all_below
all_listed test ns zero h = refl
all_listed test [] (suc n) h = absurd (omega arith)
all_listed test (k ∷ ns) (suc n) h = rw (all_listed test ns n (omega arith), below_first (place_passed test (k ∷ ns)) n)

-- r tells whether each of the first n nodes passes
pub all_tell : (test : Test) (ns own : List Kind) (n : ℕ) (r : Bool) → own ≡ take n ns → n ≤ length ns → r ≡ list_all (passed test) own
    → r ≡ all_below (place_passed test ns) n
all_tell test ns own n r o h e = e ∙ rw (o, all_listed test ns n h)
