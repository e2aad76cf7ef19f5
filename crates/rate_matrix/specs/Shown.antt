-- When words show a chain, and what the chain's rates are then. Assumes nothing.
use Rattle.std.specs.Prelude.{◌≡◌, List, ℕ, ◌+◌, ◌*◌, ◌-◌, ◌<◌}
use Rattle.std.proofs.Math.Path.{refl, ap}
use Rattle.std.proofs.Common.{◌∙◌}
use Rattle.csl.specs.Chain.{Chain, sum_to, greatest, away, exit_rate, top_rate}
use Rattle.csl.specs.Phase.{moved}
use Rattle.numbers.specs.Sum.{sum_cong, greatest_cong}
use Rattle.rate_matrix.specs.Words.{to_of, rate_between, exit_of, top_of, flow}
use Rattle.rate_matrix.specs.Lines.{by_lines, exit_by_lines}

-- the first m words show the chain c of n states: from each state to each other, the rates of the words add up to the chain's, and no word
-- has a rate to its own state
pub record Shows (c : Chain) (mv : List ℕ) (m n : ℕ) : Type 0 where
  pub states : c.states ≡ n
  pub targets : (j : ℕ) → j < m → to_of mv j < n
  pub rates : (s g : ℕ) → s < n → g < n → away c s g ≡ rate_between mv m s g

module _ {c : Chain} {mv : List ℕ} {m n : ℕ} (p : Shows c mv m n) where
  pub exit_shown : (s : ℕ) → s < n → exit_rate c s ≡ exit_of mv m s
  unfolding exit_rate
  exit_shown s h =
      ap (λ (k : ℕ). sum_to (away c s) k) p.states
      ∙ sum_cong (away c s) (rate_between mv m s) n (λ g l. p.rates s g h l)
      ∙ exit_by_lines mv s n m p.targets

  pub top_shown : top_rate c ≡ top_of mv m n
  unfolding top_rate top_of
  top_shown = ap (λ (k : ℕ). greatest (exit_rate c) k) p.states ∙ greatest_cong (exit_rate c) (exit_of mv m) n exit_shown

  pub flow_shown : (v : ℕ → ℕ) (s : ℕ) → s < n → sum_to (λ g. away c s g * v g) c.states ≡ flow mv m v s
  flow_shown v s h =
      ap (λ (k : ℕ). sum_to (λ g. away c s g * v g) k) p.states
      ∙ sum_cong (λ g. away c s g * v g) (λ g. rate_between mv m s g * v g) n (λ g l. ap (λ (x : ℕ). x * v g) (p.rates s g h l))
      ∙ by_lines mv v s n m p.targets

  pub moved_shown : (v : ℕ → ℕ) (s : ℕ) → s < n → moved c v s ≡ flow mv m v s + (top_of mv m n - exit_of mv m s) * v s
  unfolding moved
  moved_shown v s h = rw (flow_shown v s h, top_shown, exit_shown s h) refl
