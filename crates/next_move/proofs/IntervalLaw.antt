-- The interval of one state: the quotients are the fraction rounded down and up, and fit 32 bits. Assumes nothing.
use mathlib.Core.Path.{◌≡◌, refl, sym}
use Prim.Native.Nat.{ℕ, ◌+◌, ◌*◌, ◌-◌, ◌/◌, ◌≤◌}
use native.Mathlib.Omega.{arith}
use borrow.Author.Tests.{ne_eqb}
use mir.Val.{Fits}
use mir.Syntax.{w32}
use Rattle.std.specs.Int.{div_ceil}
use Rattle.std.proofs.lemmas.Grind.{div_ceil_times}
use Rattle.csl.specs.Limits.{billion}
use Rattle.csl.specs.Next.{divided_by}
use Rattle.csl.proofs.Laws.Next.{divided_is, divided_le, round_down_lem, round_up_lem, down_range, up_range}
use Rattle.numbers.specs.Hint.{div_is}
use Rattle.verdicts.specs.Paper.{interval}
use Rattle.verdicts.specs.declared.interval.Interval.{Interval}
use Rattle.next_move.specs.Ends.{down_of, up_of}

-- with exit rate 0 both ends are 0
pub no_exit : (low high exit : ℕ) → exit ≡ 0 → interval 0 0 ≡ interval (down_of low exit) (up_of high exit)
no_exit low high exit h = rw h refl

module _ (exit : ℕ) (some : exit ≡ 0 → ⊥) where
  down_is : (low : ℕ) → low * billion / exit ≡ down_of low exit
  down_is low = rw (ne_eqb exit 0 some) refl

  up_is : (high : ℕ) → (high * billion + (exit - 1)) / exit ≡ up_of high exit
  up_is high = rw (ne_eqb exit 0 some) refl

  -- the library's quotient rounded up
  ceil_is : (x : ℕ) → div_ceil x exit ≡ (x + (exit - 1)) / exit
  ceil_is x =
      let b = div_ceil_times x exit (omega arith) in
      sym (div_is (div_ceil x exit) (x + (exit - 1)) exit (omega (arith, b.1)) (omega (arith, b.0)))

  pub lower_fits : (low : ℕ) → low ≤ exit → Fits w32 (low * billion / exit)
  lower_fits low l =
      omega (arith, down_is low, down_range (divided_by low exit) (down_of low exit) (divided_is low exit) (divided_le low exit l) (round_down_lem _ (divided_is low exit)))

  pub upper_fits : (high : ℕ) → high ≤ exit → Fits w32 (div_ceil (high * billion) exit)
  upper_fits high l =
      omega (arith, ceil_is (high * billion), up_is high, up_range (divided_by high exit) (up_of high exit) (divided_is high exit) (divided_le high exit l) (round_up_lem _ (divided_is high exit)))

  pub interval_is : (low high : ℕ) (r : Interval) → r ≡ interval (low * billion / exit) (div_ceil (high * billion) exit)
      → r ≡ interval (down_of low exit) (up_of high exit)
  interval_is low high r e = rw (e, down_is low, ceil_is (high * billion), up_is high) refl

pub ruleset interval_laws = (no_exit, lower_fits, upper_fits, interval_is)
