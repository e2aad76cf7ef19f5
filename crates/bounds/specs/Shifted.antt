-- When a phase starts a little higher than another. That its quotients lie above the other's by no more is in proofs/Shifted. Assumes nothing.
use Rattle.std.specs.Prelude.{◌≡◌, false}
use Prim.Native.Nat.{ℕ, ◌<◌}
use Rattle.csl.specs.Fraction.{frac, Below, plus, billionths}
use Rattle.csl.specs.Chain.{Chain}
use Rattle.csl.specs.Phase.{Phase}

-- two phases that hold 0 at the same states and 1 at none, the start of the one at most e billionths above that of the other
pub record StartsNear (c : Chain) (ph ph' : Phase) (e : ℕ) : Type 0 where
  pub some : 0 < ph.whole
  pub some' : 0 < ph'.whole
  pub ones : (s : ℕ) → ph.one s ≡ false
  pub ones' : (s : ℕ) → ph'.one s ≡ false
  pub nils : (s : ℕ) → s < c.states → ph.nil s ≡ ph'.nil s
  pub starts : (s : ℕ) → s < c.states → Below (frac (ph.start s) ph.whole) (plus (frac (ph'.start s) ph'.whole) (billionths e))
