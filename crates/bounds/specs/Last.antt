-- The last step that is made: the weights of all later ones together are next to nothing. Assumes nothing.
use Rattle.std.specs.Prelude.{◌≡◌, Bool}
use Rattle.std.proofs.Math.Path.{refl}
use Rattle.std.proofs.Math.Bool.{true, false, cond}
use Prim.Native.Nat.{ℕ, zero, suc, ◌+◌, ◌≤◌}
use native.Mathlib.Omega.{arith}
use Rattle.std.proofs.Math.Dec.{ltb}
use Rattle.std.proofs.Common.{ltb-false}
use Rattle.csl.specs.Chain.{sum_to}

-- of steps 0 to k the last that is made, where weights w that add to at most `most` may be dropped and `rest` are dropped already
unfoldable pub last_from : (ℕ → ℕ) → ℕ → ℕ → ℕ → ℕ
last_from w most zero rest = 0
last_from w most (suc k) rest = cond (ltb most (rest + w (suc k))) (suc k) (last_from w most k (rest + w (suc k)))

module _ (w : ℕ → ℕ) (most : ℕ) where
  pub last_within : (k rest : ℕ) → last_from w most k rest ≤ k
  unfolding last_from
  last_within zero rest = omega arith
  last_within (suc k) rest = by (ltb most (rest + w (suc k))) (last_within k (rest + w (suc k)))
    where
      by : (x : Bool) → last_from w most k (rest + w (suc k)) ≤ k → cond x (suc k) (last_from w most k (rest + w (suc k))) ≤ suc k
      by true h = omega arith
      by false h = omega arith

  -- what is dropped adds to at most `most`
  pub last_rest : (k rest : ℕ) → rest ≤ most → sum_to w (suc k) + rest ≤ sum_to w (suc (last_from w most k rest)) + most
  unfolding last_from sum_to
  last_rest zero rest h = omega arith
  last_rest (suc k) rest h = by (ltb most (rest + w (suc k))) refl (last_rest k (rest + w (suc k)))
    where
      by : (x : Bool) → ltb most (rest + w (suc k)) ≡ x
          → (rest + w (suc k) ≤ most → sum_to w (suc k) + (rest + w (suc k)) ≤ sum_to w (suc (last_from w most k (rest + w (suc k)))) + most)
          → sum_to w (suc k) + w (suc k) + rest ≤ sum_to w (suc (cond x (suc k) (last_from w most k (rest + w (suc k))))) + most
      by true e i = omega arith
      by false e i = omega (arith, i (ltb-false _ _ e))

-- weights that are the same through step d have one last step
pub last_same : (w u : ℕ → ℕ) (most d : ℕ) → ((k : ℕ) → k ≤ d → w k ≡ u k) → (k rest : ℕ) → k ≤ d
    → last_from w most k rest ≡ last_from u most k rest
unfolding last_from
last_same w u most d h zero rest l = refl
last_same w u most d h (suc k) rest l = rw (h (suc k) l, last_same w u most d h k (rest + u (suc k)) (omega arith)) refl
