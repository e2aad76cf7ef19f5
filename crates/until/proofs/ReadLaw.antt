-- One reading's sums. Assumes nothing.
use mathlib.Core.Path.{◌≡◌, refl, ◌∙◌}
use mathlib.Core.Bool.{Bool, true, false}
use mathlib.Core.List.{List}
use Prim.Native.Nat.{ℕ, ◌+◌, ◌*◌, ◌-◌, ◌≤◌, ◌<◌}
use native.Mathlib.Omega.{arith}
use lib.Dec.{ltb}
use lib.ListN.{length}
use borrow.Author.Tests.{lt-ltb, le-ltb}
use Rattle.numbers.specs.Sum.{sum_cong}
use Rattle.bounds.specs.Unit.{unit, part}
use Rattle.vectors.specs.Places.{at, weights_from, value_at, stay_at, held_at, exit_at, weight_at}
use Rattle.vectors.specs.Prepared.{rates_slow, rates_small}
use Rattle.phase.specs.Value.{held_of, stay_of}
use Rattle.phase.specs.Bound.{run_cong}
use Rattle.phase.specs.Steps.{Begun}
use Rattle.until.specs.Reading.{read_phase, end_of, value_from}
use Rattle.until.specs.Run.{run_at, Ran}
use Rattle.until.specs.Asked.{LayAsked, Laid, ReadAsked, Read}

-- what stays put says whether a value is held
stay_held : (q e : ℕ) (b : Bool) → ltb q (stay_of q e b) ≡ b
stay_held q e true = lt-ltb q (q + 1) (omega arith)
stay_held q e false = le-ltb q (q - e) (omega arith)

module _ {mv l first second : List ℕ} {n q last : ℕ} (p : ReadAsked mv l first second n q last) where
  pub may_lay : LayAsked l first second n q
  may_lay =
      record {
        ends = p.ends;
        long = p.rates.long;
        exits = λ s h. record { slow = rw (p.rates.exits s h) (rates_slow p.rates s h); small = rates_small p.rates };
      }

  module _ {b : Bool} {x : List ℕ} (i : Laid first second n q b l x) where
    module _ {y : List ℕ} (g : Begun n x y) where
      kept : (k : ℕ) → 6 * n ≤ k → (k ≡ 9 * n + 511 → ⊥) → at y k ≡ at l k
      kept k h c = g.after k (omega arith) c ∙ i.after k h

      stay_is : (s : ℕ) → s < n → stay_at y n s ≡ stay_at x n s
      stay_is s h = g.after (5 * n + s) (omega arith) (omega arith)

      held_is : (s : ℕ) → s < n → held_at y n q s ≡ held_of (read_phase b first second) s
      held_is s h = rw (stay_is s h, i.stays s h) (stay_held q (exit_at l n s) (held_of (read_phase b first second) s))

      weight_is : (k : ℕ) → k ≤ last → weight_at y n k ≡ weight_at l n k
      weight_is k h = kept (weights_from n + k) (omega arith) (omega (arith, p.room))

      -- the values of the run are those of the phase
      run_is : (k s : ℕ) → s < n → run_at mv y n q k s ≡ value_from mv first second l n q b k s
      run_is =
          run_cong mv (length mv) n q p.rates.lines.targets (value_at y n) (λ s. unit * end_of b l n s) (held_at y n q)
          (held_of (read_phase b first second)) (λ s h. g.values s h ∙ i.values s h) held_is

      pub is_read : {z : List ℕ} → Ran mv n q last y z → Read mv first second n q last b l z
      is_read r =
          record {
            same = r.same ∙ g.same ∙ i.same;
            sums = λ s h. r.sums s h
                ∙ sum_cong (λ k. part (weight_at y n k) (run_at mv y n q k s))
                (λ k. part (weight_at l n k) (value_from mv first second l n q b k s)) (last + 1)
                (λ k c. rw (weight_is k (omega arith), run_is k s h) refl);
            before = λ k h. r.before k h ∙ g.before k h ∙ i.before k (omega arith);
            after = λ k h c. r.after k (omega arith) c ∙ kept k h c;
          }

pub ruleset read_laws = (may_lay, is_read)
