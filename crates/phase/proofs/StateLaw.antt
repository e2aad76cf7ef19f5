-- One state's step: its value is held, or moved. Assumes nothing.
use mathlib.Core.Path.{◌≡◌, refl}
use mathlib.Core.Bool.{false}
use mathlib.Core.List.{List}
use Prim.Native.Nat.{ℕ, suc, ◌+◌, ◌*◌, ◌/◌, ◌≤◌, ◌<◌}
use native.Mathlib.Omega.{arith}
use lib.ListN.{length}
use borrow.Author.Tests.{lt-ltb, le-ltb}
use mir.Val.{Fits}
use mir.Syntax.{w64}
use Rattle.csl.specs.Limits.{most_rate}
use Rattle.csl.specs.Chain.{sum_to}
use Rattle.numbers.specs.Hint.{mul_bound}
use Rattle.bounds.specs.Unit.{one}
use Rattle.rate_matrix.specs.Words.{at, pull, flow}
use Rattle.rate_matrix.specs.Sorted.{row_sum, row_most, row_next}
use Rattle.vectors.specs.Places.{value_at, held_at}
use Rattle.vectors.specs.Prepared.{Rates, rates_slow, rates_small}
use Rattle.phase.specs.Value.{mixed, next}
use Rattle.phase.specs.Bound.{mixed_most}
use Rattle.phase.specs.Moving.{StateAsked, RowAsked, RowSummed}

module _ {mv l : List ℕ} {n q s begin end : ℕ} (p : StateAsked mv l n q s begin end) where
  rates : Rates mv l n q
  rates = p.all.rates

  together : mixed mv (length mv) q (value_at l n) s ≤ q * one
  together = mixed_most mv (length mv) n q rates.lines.targets (value_at l n) p.all.values s p.here (rates_slow rates s p.here)

  -- a value that is held
  pub held : q < at l (5 * n + s) → at l (2 * n + s) ≡ next mv (length mv) q (held_at l n q) (value_at l n) s
  unfolding next
  held h = rw (lt-ltb q (at l (5 * n + s)) h) refl

  -- one that moves
  module _ (h : at l (5 * n + s) ≤ q) where
    not_held : held_at l n q s ≡ false
    not_held = le-ltb q (at l (5 * n + s)) h

    stays_most : at l (5 * n + s) ≤ most_rate
    stays_most = omega (arith, rates_small rates)

    pub own_fits : Fits w64 (at l (5 * n + s) * at l (2 * n + s))
    own_fits = omega (arith, mul_bound stays_most (p.all.values s p.here))

    row_is : at l (5 * n + s) * at l (2 * n + s) + sum_to (pull mv (value_at l n)) end
        ≡ mixed mv (length mv) q (value_at l n) s + sum_to (pull mv (value_at l n)) begin
    unfolding mixed flow
    row_is =
        rw (p.all.stays s p.here not_held, p.ends, p.begins)
        (omega (arith, row_sum mv (pull mv (value_at l n)) s (length mv) rates.rows))

    pub may_row : RowAsked mv l n begin end (at l (5 * n + s) * at l (2 * n + s))
    may_row =
        record {
          states = rates.lines.states;
          targets = rates.lines.targets;
          room = omega (arith, rates.long);
          part = omega (arith, p.begins, p.ends, row_next mv (length mv) s);
          within = omega (arith, p.ends, row_most mv (length mv) (suc s));
          fits = omega (arith, row_is, together, rates_small rates);
        }

    pub moved : (r : ℕ) → RowSummed mv l n begin end (at l (5 * n + s) * at l (2 * n + s)) r
        → r / q ≡ next mv (length mv) q (held_at l n q) (value_at l n) s
    unfolding next
    moved r u =
        let e : r ≡ mixed mv (length mv) q (value_at l n) s = omega (arith, u.is, row_is) in
        rw (not_held, e) refl

pub ruleset state_laws = (own_fits, may_row, held, moved)
