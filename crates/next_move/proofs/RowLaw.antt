-- A row added up, for both readings. Assumes nothing.
use mathlib.Core.Path.{◌≡◌, refl}
use mathlib.Core.Bool.{Bool, true, false}
use mathlib.Core.List.{List}
use Prim.Native.Nat.{ℕ, ◌+◌, ◌*◌, ◌^◌, ◌≤◌, ◌<◌}
use native.Mathlib.Omega.{arith}
use lib.ListN.{length}
use mir.Val.{Fits}
use mir.Syntax.{w64}
use Rattle.csl.specs.Phase.{bit}
use Rattle.numbers.specs.Sum.{running_is, running_fits}
use Rattle.verdicts.specs.Byte.{verdict_at, read_as}
use Rattle.rate_matrix.specs.Words.{at, to_of, rate_of, pull}
use Rattle.next_move.specs.Row.{held_in, RowAsked, RowIs, Entered}

pub record Inv (mv operand : List ℕ) (n begin end low high j : ℕ) : Type 0 where
  pub asked : RowAsked mv operand n begin end
  pub within : j ≤ end
  pub low_is : RowIs false mv operand begin j low
  pub high_is : RowIs true mv operand begin j high

pub start : {mv operand : List ℕ} {n begin end : ℕ} → RowAsked mv operand n begin end → Inv mv operand n begin end 0 0 begin
start p = record { asked = p; within = p.part; low_is = omega arith; high_is = omega arith }

module _ {mv operand : List ℕ} {n begin end low high j : ℕ} (v : Inv mv operand n begin end low high j) (h : j < end) where
  pub in_moves : j < length mv
  in_moves = omega (arith, v.asked.within)

  pub in_operand : (to : ℕ) → to ≡ to_of mv j → to < length operand
  in_operand to t = omega (arith, v.asked.targets j in_moves, v.asked.room)

  module _ (rate byte to : ℕ) (r : rate ≡ rate_of mv j) (t : to ≡ to_of mv j) (g : byte ≡ at operand to) where
    term : (b : Bool) (x : ℕ) → x ≡ rate * bit (read_as b (verdict_at byte)) → x ≡ pull mv (held_in b operand) j
    term b x e = rw (e, r, g, t) refl

    fits : (b : Bool) (sum x : ℕ) → RowIs b mv operand begin j sum → x ≡ rate * bit (read_as b (verdict_at byte)) → sum + x < 2 ^ 64
    fits b sum x i e =
        rw (term b x e)
        (running_fits (pull mv (held_in b operand)) sum 0 begin end j (2 ^ 64) (omega (arith, i)) (omega (arith, v.asked.fits b)) h)

    more : (b : Bool) (sum x : ℕ) → RowIs b mv operand begin j sum → x ≡ rate * bit (read_as b (verdict_at byte))
        → RowIs b mv operand begin (j + 1) (sum + x)
    more b sum x i e =
        rw (term b x e) (omega (arith, running_is (pull mv (held_in b operand)) sum 0 begin j (omega (arith, i))))

    pub low_fits : (x : ℕ) → x ≡ rate * bit (read_as false (verdict_at byte)) → Fits w64 (low + x)
    low_fits x e = omega (arith, fits false low x v.low_is e)

    pub high_fits : (x : ℕ) → x ≡ rate * bit (read_as true (verdict_at byte)) → Fits w64 (high + x)
    high_fits x e = omega (arith, fits true high x v.high_is e)

    pub turn : (x y : ℕ) → x ≡ rate * bit (read_as false (verdict_at byte)) → y ≡ rate * bit (read_as true (verdict_at byte))
        → Inv mv operand n begin end (low + x) (high + y) (j + 1)
    turn x y e f =
        record {
          asked = v.asked;
          within = omega arith;
          low_is = more false low x v.low_is e;
          high_is = more true high y v.high_is f;
        }

pub finish : {mv operand : List ℕ} {n begin end low high j : ℕ} → Inv mv operand n begin end low high j → end ≤ j
    → Entered mv operand begin end (record { low = low; high = high })
finish {end = end} {j = j} v h =
    let e : j ≡ end = omega (arith, v.within) in record { low = rw e at v.low_is; high = rw e at v.high_is }

pub ruleset row_laws = (start, in_moves, in_operand, low_fits, high_fits, turn, finish)
