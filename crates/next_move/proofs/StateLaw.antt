-- One state: what enters states where the operand holds is a part of the exit rate, for both readings. Assumes nothing.
use mathlib.Core.Path.{◌≡◌, refl}
use mathlib.Core.Bool.{Bool, true, false}
use mathlib.Core.List.{List}
use Prim.Native.Nat.{ℕ, suc, ◌+◌, ◌*◌, ◌≤◌}
use native.Mathlib.Omega.{arith}
use native.Mathlib.Nat.{mul-le-mul_left}
use lib.ListN.{length}
use mir.Val.{Fits}
use mir.Syntax.{w64}
use Rattle.csl.specs.Limits.{most_rate}
use Rattle.csl.specs.Chain.{sum_to}
use Rattle.csl.specs.Phase.{bit}
use Rattle.verdicts.specs.Paper.{interval}
use Rattle.verdicts.specs.Byte.{verdict_at, read_as}
use Rattle.verdicts.specs.declared.interval.Interval.{Interval}
use Rattle.rate_matrix.specs.Words.{at, exit_of, pull, flow}
use Rattle.rate_matrix.specs.Lines.{flow_most}
use Rattle.rate_matrix.specs.Sorted.{row_sum, row_most, row_next}
use Rattle.vectors.specs.Places.{own_at}
use Rattle.vectors.specs.Prepared.{Rates}
use Rattle.next_move.specs.Row.{held_in, RowAsked, RowIs, Entered}
use Rattle.next_move.specs.Ends.{down_of, up_of, exit_in, entering_in, lower_at, upper_at, StateAsked}
use Rattle.next_move.specs.declared.entering.Entering.{Entering}

bit_most : (b : Bool) → bit b ≤ 1
bit_most true = omega arith
bit_most false = omega arith

module _ {mv l operand : List ℕ} {n s begin end : ℕ} (p : StateAsked mv l operand n s begin end) where
  rates : Rates mv l n p.all.q
  rates = p.all.rates

  row_is : (b : Bool) → flow mv (length mv) (held_in b operand) s + sum_to (pull mv (held_in b operand)) begin ≡ sum_to (pull mv (held_in b operand)) end
  unfolding flow
  row_is b = rw (p.begins, p.ends) (row_sum mv (pull mv (held_in b operand)) s (length mv) rates.rows)

  -- what flows into states that hold is a part of all that flows
  flow_part : (b : Bool) → flow mv (length mv) (held_in b operand) s ≤ exit_of mv (length mv) s
  flow_part b =
      omega (arith, flow_most mv (length mv) n (held_in b operand) s 1 rates.lines.targets (λ g i. bit_most (read_as b (verdict_at (at operand g)))))

  slow : exit_in mv l n s ≤ most_rate
  slow = p.all.slow s p.here

  pub may_row : RowAsked mv operand n begin end
  may_row =
      record {
        targets = rates.lines.targets;
        room = p.all.room;
        part = omega (arith, p.begins, p.ends, row_next mv (length mv) s);
        within = omega (arith, p.ends, row_most mv (length mv) (suc s));
        fits = λ b. omega (arith, row_is b, flow_part b, slow);
      }

  -- the rate to the own state, as read
  module _ (own : ℕ) (o : own ≡ own_at l n s) where
    -- the exit rate, as added
    exit_is : at l (6 * n + s) + own ≡ exit_in mv l n s
    exit_is = rw (rates.exits s p.here, o) refl

    pub exit_fits : Fits w64 (at l (6 * n + s) + own)
    exit_fits = omega (arith, exit_is, slow)

    pub exit_most : at l (6 * n + s) + own ≤ most_rate
    exit_most = omega (arith, exit_is, slow)

    own_part : (b : Bool) → own_at l n s * held_in b operand s ≤ own
    own_part b = omega (arith, o, mul-le-mul_left (own_at l n s) (bit_most (read_as b (verdict_at (at operand s)))))

    -- what enters, of one reading: the row's share and the own state's
    module _ (b : Bool) (x y : ℕ) (u : RowIs b mv operand begin end x) (e : y ≡ own * bit (read_as b (verdict_at (at operand s)))) where
      sum_is : x + y ≡ entering_in b mv l operand n s
      sum_is = let f : x ≡ flow mv (length mv) (held_in b operand) s = omega (arith, row_is b) in rw (e, f, o) refl

      sum_most : x + y ≤ at l (6 * n + s) + own
      sum_most = omega (arith, sum_is, flow_part b, own_part b, exit_is)

    module _ (r : Entering) (u : Entered mv operand begin end r) where
      pub low_fits : (y : ℕ) → y ≡ own * bit (read_as false (verdict_at (at operand s))) → Fits w64 (r.low + y)
      low_fits y e = omega (arith, sum_most false r.low y u.low e, exit_most)

      pub high_fits : (y : ℕ) → y ≡ own * bit (read_as true (verdict_at (at operand s))) → Fits w64 (r.high + y)
      high_fits y e = omega (arith, sum_most true r.high y u.high e, exit_most)

      pub low_most : (y : ℕ) → y ≡ own * bit (read_as false (verdict_at (at operand s)))
          → r.low + y ≤ at l (6 * n + s) + own
      low_most y e = sum_most false r.low y u.low e

      pub high_most : (y : ℕ) → y ≡ own * bit (read_as true (verdict_at (at operand s)))
          → r.high + y ≤ at l (6 * n + s) + own
      high_most y e = sum_most true r.high y u.high e

      pub ends_are : (y z : ℕ) → y ≡ own * bit (read_as false (verdict_at (at operand s)))
          → z ≡ own * bit (read_as true (verdict_at (at operand s))) → (i : Interval)
          → i ≡ interval (down_of (r.low + y) (at l (6 * n + s) + own)) (up_of (r.high + z) (at l (6 * n + s) + own))
          → i ≡ interval (lower_at mv l operand n s) (upper_at mv l operand n s)
      ends_are y z e f i g = rw (g, sum_is false r.low y u.low e, sum_is true r.high z u.high f, exit_is) refl

pub ruleset state_laws = (may_row, exit_fits, exit_most, low_fits, high_fits, low_most, high_most, ends_are)
