-- A load, the depth for it, and its weights in the lent words. Assumes nothing.
use Rattle.std.specs.Prelude.{◌≡◌, List, ℕ, ◌+◌, ◌*◌, ◌/◌, ◌≤◌, ◌<◌, length}
use Rattle.std.proofs.Common.{arith}
use Rattle.csl.specs.Limits.{most_states, most_rate_hundredths, rate_hundredths, spare_steps}
use Rattle.csl.specs.Fraction.{frac, round_up}
use Rattle.bounds.specs.Weight.{peak, low}
use Rattle.bounds.specs.Ends.{total}
use Rattle.weights.specs.Asked.{most_steps}
use Rattle.vectors.specs.Places.{at, weights_from, total_at, vector_length, weight_at, total_in}

-- "The depth D is 2 × (L rounded up to a whole number) + 40", for a load of a hundred-millionths
abbrev pub load_depth : ℕ → ℕ
load_depth a = 2 * round_up (frac a rate_hundredths) + spare_steps

-- the greatest load that the numbers hold, 256, in hundred-millionths: the greatest that is let pass is 64
abbrev pub most_load : ℕ
most_load = 256 * rate_hundredths

-- a load whose weights have room before their total
pub record Loaded (n a : ℕ) : Type 0 where
  pub most : a ≤ most_load
  pub room : weights_from n + load_depth a < total_at n

-- every load that is let pass has it: "14 compares q × hundredths with 6,400,000,000"
pub light_loaded : (n a : ℕ) → a ≤ most_rate_hundredths → Loaded n a
light_loaded n a h = record { most = omega arith; room = omega arith }

-- weights to be worked out
pub record WeighAsked (l : List ℕ) (n a depth : ℕ) : Type 0 where
  pub states : n ≤ most_states
  pub long : vector_length n ≤ length l
  pub some : 0 < a
  pub load : Loaded n a
  pub deep : depth ≡ load_depth a

-- the weights of steps 0 to depth and their total stand in their places; all other words are as they were
pub record Weighed (n a depth : ℕ) (old new : List ℕ) : Type 0 where
  pub same : length new ≡ length old
  pub weights : (k : ℕ) → k ≤ depth → weight_at new n k ≡ low a rate_hundredths (a / rate_hundredths) k
  pub total : total_in new n ≡ total a rate_hundredths (a / rate_hundredths) depth
  pub before : (k : ℕ) → k < weights_from n → at new k ≡ at old k
  pub after : (k : ℕ) → weights_from n + depth < k → (k ≡ total_at n → ⊥) → at new k ≡ at old k

-- the weights of steps 0 to last are to be looked through
pub record LightAsked (l : List ℕ) (n last : ℕ) : Type 0 where
  pub states : n ≤ most_states
  pub long : vector_length n ≤ length l
  pub limit : last < most_steps
  pub room : weights_from n + last < total_at n
  pub weights : (k : ℕ) → k ≤ last → weight_at l n k ≤ peak
