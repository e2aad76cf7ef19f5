-- What one run of the code says of any phase whose start is known up to an error: from its sums, both ends of the phase's quotients from D
-- on, and how near they are. Until is such a phase, with a start that is known exactly. Assumes nothing.
use Rattle.std.specs.Prelude.{◌≡◌, List, ℕ, ◌+◌, ◌*◌, ◌-◌, ◌/◌, ◌≤◌, ◌<◌, length}
use Rattle.std.proofs.Common.{arith}
use Rattle.csl.specs.Limits.{billion, rate_hundredths}
use Rattle.csl.specs.Chain.{Chain, sum_to}
use Rattle.csl.specs.Phase.{Phase}
use Rattle.csl.specs.Laws.Steps.{Starts}
use Rattle.bounds.specs.Weight.{peak, low}
use Rattle.bounds.specs.Unit.{one, scale, part}
use Rattle.bounds.specs.Ends.{total, last_step, lower_end}
use Rattle.bounds.proofs.Ends.{last_step_within}
use Rattle.bounds.specs.Upper.{left_end}
use Rattle.bounds.specs.PhaseEnd.{PhaseEnds}
use Rattle.bounds.proofs.PhaseEnd.{phase_ends}
use Rattle.rate_matrix.specs.Words.{top_of}
use Rattle.rate_matrix.specs.Shown.{Shows, top_shown}
use Rattle.weights.specs.Asked.{most_steps}
use Rattle.vectors.specs.Places.{weights_from, total_at, value_at, next_at, sum_at, held_at, weight_at, number_in}
use Rattle.phase.specs.Value.{held_of, run_of}
use Rattle.phase.specs.Rounded.{StartsHeld, runs}
use Rattle.phase.specs.Moving.{Moving}
use Rattle.phase.specs.Load.{load_depth, most_load}
use Rattle.phase.specs.Steps.{StandsAt}
use Rattle.phase.specs.Ends.{whole_of}
use Rattle.phase.specs.Sums.{sum_gathered, whole_gatherable}

-- words at step 0 of a phase, from which steps to the last one have room
pub record RunAsked (mv l : List ℕ) (n q last : ℕ) : Type 0 where
  pub moving : Moving mv l n q
  pub number : number_in l n ≡ 0
  pub next : (s : ℕ) → s < n → next_at l n s ≡ value_at l n s
  pub sums : (s : ℕ) → s < n → sum_at l n s ≡ part (weight_at l n 0) (value_at l n s)
  pub limit : last < most_steps
  pub room : weights_from n + last < total_at n
  pub weights : (k : ℕ) → k ≤ last → weight_at l n k ≤ peak

-- the value of state s at step k of a run from the words of a list; the sum over the first k steps of weight times value
abbrev pub run_at : (mv l : List ℕ) (n q : ℕ) → ℕ → ℕ → ℕ
run_at mv l n q k s = run_of mv (length mv) q (value_at l n) (held_at l n q) k s

abbrev pub sum_of : (mv l : List ℕ) (n q : ℕ) → ℕ → ℕ → ℕ
sum_of mv l n q s k = sum_to (λ i. part (weight_at l n i) (run_at mv l n q i s)) k

-- the words stand at the last step
abbrev pub Ran : (mv : List ℕ) (n q last : ℕ) → (old new : List ℕ) → Type 0
Ran mv n q last old new = StandsAt n last (run_at mv old n q last) (λ s. sum_of mv old n q s (last + 1)) old new

-- the words of a run over a phase: its weights, which states it holds, and a start that is at most e units too low
pub record Begins (ph : Phase) (a e n q : ℕ) (l : List ℕ) : Type 0 where
  pub weights : (k : ℕ) → k ≤ load_depth a → weight_at l n k ≡ low a rate_hundredths (a / rate_hundredths) k
  pub held : (s : ℕ) → s < n → held_at l n q s ≡ held_of ph s
  pub start : StartsHeld n ph (value_at l n)
  pub below : (s : ℕ) → s < n → value_at l n s * ph.whole ≤ one * ph.start s
  pub near : (s : ℕ) → s < n → one * ph.start s ≤ (value_at l n s + e) * ph.whole

module _ {c : Chain} {mv l l' : List ℕ} {n a e : ℕ} {ph : Phase} (p : Shows c mv (length mv) n) (i : Begins ph a e n (top_of mv (length mv) n) l)
    (r : Ran mv n (top_of mv (length mv) n) (last_step a rate_hundredths (a / rate_hundredths) (load_depth a)) l l') where
  last : ℕ
  last = last_step a rate_hundredths (a / rate_hundredths) (load_depth a)

  weights : (k : ℕ) → k ≤ last → weight_at l n k ≡ low a rate_hundredths (a / rate_hundredths) k
  unfolding last
  weights k h = i.weights k (omega (arith, last_step_within a rate_hundredths (a / rate_hundredths) (load_depth a)))

  pub run_ends : 0 < a → a ≤ most_load → 0 < top_of mv (length mv) n → 0 < ph.whole → Starts c ph → (s : ℕ) → s < n
      → PhaseEnds c ph a rate_hundredths e s (sum_at l' n s * scale / total a rate_hundredths (a / rate_hundredths) (load_depth a))
      (billion - (whole_of l n (last_step a rate_hundredths (a / rate_hundredths) (load_depth a)) e - sum_at l' n s) * scale
      / total a rate_hundredths (a / rate_hundredths) (load_depth a))
  unfolding lower_end left_end last
  run_ends load most moving whole starts s h =
      rw (r.sums s h, sum_gathered l n a last weights (λ k. run_at mv l n (top_of mv (length mv) n) k s), whole_gatherable l n a last weights e)
      (phase_ends a rate_hundredths load (omega arith) c ph (omega (arith, top_shown p)) whole starts (runs p i.held i.start i.below i.near) s
      (omega (arith, p.states)) (omega arith))
