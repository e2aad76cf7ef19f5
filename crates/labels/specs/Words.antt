-- The word of a list of marks, and of a state. Assumes nothing.
use Rattle.std.specs.Prelude.{◌≡◌, refl, ℕ, zero, suc, ◌+◌, ◌*◌, ◌/◌, ◌%◌, ◌^◌, Bool, true, false, cond, get_or}
use Rattle.std.proofs.Common.{ap, ◌∙◌, arith, pow-suc, mul_comm}
use Rattle.std.proofs.Math.Nat.{zero-div, div-div-eq-div-mul}
use mathlib.Core.List.{List, [], ◌∷◌, tail}
use Rattle.csl.specs.Text.{Text, bytes, same}
use Rattle.csl.specs.Line.{later_lines, fields_of}
use Rattle.csl.specs.Labels.{mark_at}

-- a mark as a bit
abbrev pub mark_bit : Text → ℕ
mark_bit f = cond (same f (bytes "1")) 1 0

unfoldable pub marks_word : List Text → ℕ
marks_word [] = 0
marks_word (f ∷ fs) = mark_bit f + 2 * marks_word fs

-- the word of a state
unfoldable pub state_word : Text → ℕ → ℕ
state_word labels s = marks_word (tail (fields_of (get_or (later_lines labels) s [])))

-- its bits are the marks
pub bit_is : (fs : List Text) (i : ℕ) → marks_word fs / 2 ^ i % 2 ≡ mark_bit (get_or fs i [])
unfolding marks_word same
bit_is [] i = rw (zero-div (2 ^ i))
bit_is (f ∷ fs) zero = go (same f (bytes "1"))
  where
    go : (x : Bool) → (cond x 1 0 + 2 * marks_word fs) / 1 % 2 ≡ cond x 1 0
    go true = omega arith
    go false = omega arith
bit_is (f ∷ fs) (suc i) =
    rw (pow-suc 2 i, mul_comm (2 ^ i) 2, ← div-div-eq-div-mul (mark_bit f + 2 * marks_word fs) 2 (2 ^ i), half (same f (bytes "1"))) (bit_is fs i)
  where
    half : (x : Bool) → (cond x 1 0 + 2 * marks_word fs) / 2 ≡ marks_word fs
    half true = omega arith
    half false = omega arith

-- of the label at a place at state s
pub mark_bit_lem : (labels : Text) (s place : ℕ) → state_word labels s / 2 ^ place % 2 ≡ cond (mark_at labels s place) 1 0
unfolding state_word mark_at
mark_bit_lem labels s place =
    bit_is (tail (fields_of (get_or (later_lines labels) s []))) place ∙ ap mark_bit (behind (fields_of (get_or (later_lines labels) s [])) place)
  where
    behind : (fs : List Text) (i : ℕ) → get_or (tail fs) i [] ≡ get_or fs (suc i) []
    behind [] i = refl
    behind (f ∷ fs) i = refl
