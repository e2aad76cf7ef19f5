-- When the lent vector words hold a chain's rates to the own state. Assumes nothing.
use Rattle.std.specs.Prelude.{◌≡◌, List, ℕ, ◌+◌, ◌≤◌, ◌<◌}
use Rattle.std.proofs.Common.{ap, ◌∙◌, arith}
use Rattle.csl.specs.Limits.{most_rate}
use Rattle.csl.specs.Chain.{Chain}
use Rattle.csl.specs.Next.{next_exit_rate}
use Rattle.rate_matrix.specs.Halves.{own_rate}
use Rattle.vectors.specs.Places.{at, values_from, owns_from, own_at}

-- They stand in their column, and no state is left too fast where they are counted.
pub record Owns (c : Chain) (l : List ℕ) (n : ℕ) : Type 0 where
  pub owns : (s : ℕ) → s < n → own_at l n s ≡ c.rate s s
  pub slow : (s : ℕ) → s < n → next_exit_rate c s ≤ most_rate

-- and do so in words that are as they were but for the ends
pub owns_kept : {c : Chain} {l l' : List ℕ} {n : ℕ} → Owns c l n → ((k : ℕ) → values_from n ≤ k → at l' k ≡ at l k) → Owns c l' n
owns_kept {n = n} o h = record { owns = λ s b. ap own_rate (h (owns_from n + s) (omega arith)) ∙ o.owns s b; slow = o.slow }
