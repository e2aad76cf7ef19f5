-- A state that is found, reached; and one that is not, left. Assumes nothing.
use mathlib.Core.Path.{◌≡◌, refl}
use mathlib.Core.Bool.{Bool, true, false}
use mathlib.Core.List.{List}
use Prim.Native.Nat.{ℕ, ◌+◌, ◌*◌, ◌<◌}
use native.Mathlib.Omega.{arith}
use lib.ListN.{length, set, length-set}
use mir.Val.{Fits}
use mir.Syntax.{w64}
use Rattle.reachability.specs.Asked.{ReachAsked, rows_reached, words_reached, tail_reached}

module _ {found : Bool} (h : found ≡ false) where
  pub tail_left : (tail : ℕ) → tail ≡ tail_reached found tail
  unfolding tail_reached
  tail_left tail = rw h refl

  pub words_left : (l : List ℕ) (n s tail : ℕ) → l ≡ words_reached found l n s tail
  unfolding words_reached
  words_left l n s tail = rw h refl

  pub rows_left : (rows : List ℕ) (n s : ℕ) → rows ≡ rows_reached found rows n s
  unfolding rows_reached
  rows_left rows n s = rw h refl

module _ {found : Bool} (h : found ≡ true) where
  pub tail_on : (tail : ℕ) → tail + 1 ≡ tail_reached found tail
  unfolding tail_reached
  tail_on tail = rw h refl

  pub words_on : (l : List ℕ) (n s tail : ℕ) → set l (2 * n + tail) s ≡ words_reached found l n s tail
  unfolding words_reached
  words_on l n s tail = rw h refl

  pub rows_on : (rows : List ℕ) (n s : ℕ) → set (set rows s 0) (n + s) 1 ≡ rows_reached found rows n s
  unfolding rows_reached
  rows_on rows n s = rw h refl

module _ {found : Bool} {l rows : List ℕ} {n s tail : ℕ} (a : ReachAsked found l rows n s tail) (h : found ≡ true) where
  pub in_queue : 2 * n + tail < length l
  in_queue = omega (arith, a.room h, a.long)

  pub place_fits : Fits w64 (2 * n + tail)
  place_fits = omega (arith, a.room h, a.states)

  pub bytes_fit : Fits w64 ((2 * n + tail) * 8)
  bytes_fit = omega (arith, a.room h, a.states)

  pub tail_fits : Fits w64 (tail + 1)
  tail_fits = omega (arith, a.room h, a.states)

  pub in_second : n + s < length (set rows s 0)
  in_second = rw (length-set rows s 0) (omega (arith, a.here, a.held))

pub ruleset reach_laws = (tail_left, words_left, rows_left, tail_on, words_on, rows_on, in_queue, place_fits, bytes_fit, tail_fits, in_second)
