-- The word of a move line that has passed its tests. Assumes nothing.
use mathlib.Core.Path.{◌≡◌, refl, sym, ◌∙◌}
use Prim.Native.Nat.{ℕ, ◌+◌}
use native.Mathlib.Omega.{arith}
use mathlib.Core.Bool.{true, ◌&&◌}
use lib.ListN.{drop, length-drop}
use Rattle.csl.specs.Text.{Text}
use Rattle.csl.specs.Moves.{move_line}
use Rattle.texts.specs.Cut.{rest_is}
use Rattle.texts.specs.LineAt.{line_at, is_ended_at}
use Rattle.texts.specs.Field.{HasDigits, KnownAt}
use Rattle.texts.specs.Numbers.{numbers_in, first_passed, last_passed, has_digits}
use Rattle.rate_matrix.specs.Packed.{packed}
use Rattle.moves.specs.Words.{WordAt}
use Rattle.moves.proofs.LineLaw.{line_test, rest, Fields, their_move, their_bytes}

module _ (t : Text) (h : (is_ended_at t && move_line (line_at t)) ≡ true) where
  three : numbers_in 3 t ≡ true
  three = sym (line_test t) ∙ h

  pub first_there : HasDigits t
  first_there = has_digits (first_passed t 1 three refl refl).0

  module _ {f a : ℕ} (k : KnownAt t f a) where
    two : numbers_in 2 (drop a t) ≡ true
    two = (first_passed t 1 three k.value_is k.used_is).1

    pub second_there : HasDigits (rest t a)
    second_there = rw (rest_is t a) (has_digits (first_passed (drop a t) 0 two refl refl).0)

    module _ {o b : ℕ} (l : KnownAt (rest t a) o b) where
      second : KnownAt (drop a t) o b
      second = rw (rest_is t a) at l

      one : numbers_in 1 (drop b (drop a t)) ≡ true
      one = (first_passed (drop a t) 0 two second.value_is second.used_is).1

      pub third_there : HasDigits (rest (rest t a) b)
      third_there = rw (rest_is (rest t a) b, rest_is t a) (has_digits (last_passed (drop b (drop a t)) one refl refl))

      module _ {r c : ℕ} (m : KnownAt (rest (rest t a) b) r c) where
        third : KnownAt (drop b (drop a t)) r c
        third = rw (rest_is (rest t a) b, rest_is t a) at m

        read : Fields t f a o b r c
        read =
            record {
              first = (first_passed t 1 three k.value_is k.used_is).0;
              second = (first_passed (drop a t) 0 two second.value_is second.used_is).0;
              third = last_passed (drop b (drop a t)) one third.value_is third.used_is;
            }

        pub known_word : {n : ℕ} → n ≡ packed f o r → WordAt t n (a + b + c)
        known_word e =
            record {
              word_is = e ∙ rw (their_move read);
              used_is = sym (their_bytes read);
              within = omega (arith, k.within, second.within, third.within, length-drop a t, length-drop b (drop a t));
            }

pub ruleset known_laws = (first_there, second_there, third_there)
