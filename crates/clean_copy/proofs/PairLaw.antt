-- The line of a pair, part by part. Assumes nothing.
use mathlib.Core.Path.{◌≡◌, refl, ap, ◌∙◌}
use mathlib.Core.List.{List, [], ◌∷◌, ◌++◌}
use Prim.Native.Nat.{ℕ, ◌+◌}
use native.Mathlib.Omega.{arith}
use lib.ListN.{length, length-append}
use borrow.Author.Tests.{eq-eqb, ne_eqb}
use Rattle.csl.specs.Line.{comma, line_feed}
use Rattle.csl.specs.Report.{decimal}
use Rattle.csl.specs.Copy.{lines_text}
use Rattle.decimals.specs.Place.{Room, Wrote}
use Rattle.decimals.specs.Writing.{wrote_none, wrote_length, wrote_more}
use Rattle.clean_copy.specs.Row.{pair_text}

module _ (s t r : ℕ) where
  -- none without a rate
  module _ (none : r ≡ 0) where
    no_pair : pair_text s t r ≡ []
    unfolding pair_text lines_text
    no_pair = rw (eq-eqb r 0 none) refl

    pub no_length : 0 ≡ length (pair_text s t r)
    no_length = rw no_pair refl

    pub none_wrote : (at : ℕ) (old : List ℕ) → Wrote at (pair_text s t r) old old at
    none_wrote at old = rw no_pair (wrote_none at old)

  module _ (some : r ≡ 0 → ⊥) where
    pair_is : pair_text s t r ≡ decimal s ++ (comma ∷ decimal t) ++ (comma ∷ decimal r) ++ (line_feed ∷ [])
    unfolding pair_text lines_text
    pair_is = rw (ne_eqb r 0 some) refl

    -- how many bytes each part takes
    pair_length : length (pair_text s t r) ≡ length (decimal s) + (1 + length (decimal t)) + (1 + length (decimal r)) + 1
    pair_length = ap length pair_is ∙ simp length-append (omega arith)

    pub pair_measured : {a b c : ℕ} → a ≡ length (decimal s) → b ≡ length (decimal t) → c ≡ length (decimal r)
        → a + b + c + 3 ≡ length (pair_text s t r)
    pair_measured e f g = omega (arith, pair_length)

    -- the parts, each behind the one before: there is room for the next, and so for all
    module _ (at : ℕ) (old : List ℕ) (room : Room at (pair_text s t r) old) where
      pub room_from : Room at (decimal s) old
      room_from = omega (arith, pair_length)

      module _ {a₁ : ℕ} {o₁ : List ℕ} (w₁ : Wrote at (decimal s) old o₁ a₁) where
        long₁ : length o₁ ≡ length old
        long₁ = wrote_length room_from w₁

        pub room_to : Room a₁ (comma ∷ decimal t) o₁
        room_to = omega (arith, pair_length, long₁)

        module _ {a₂ : ℕ} {o₂ : List ℕ} (w₂ : Wrote a₁ (comma ∷ decimal t) o₁ o₂ a₂) where
          long₂ : length o₂ ≡ length old
          long₂ = wrote_length room_to w₂ ∙ long₁

          pub room_rate : Room a₂ (comma ∷ decimal r) o₂
          room_rate = omega (arith, pair_length, long₂)

          module _ {a₃ : ℕ} {o₃ : List ℕ} (w₃ : Wrote a₂ (comma ∷ decimal r) o₂ o₃ a₃) where
            long₃ : length o₃ ≡ length old
            long₃ = wrote_length room_rate w₃ ∙ long₂

            pub room_end : Room a₃ (line_feed ∷ []) o₃
            room_end = omega (arith, pair_length, long₃)

            pub pair_wrote : {e : ℕ} {new : List ℕ} → Wrote a₃ (line_feed ∷ []) o₃ new e → Wrote at (pair_text s t r) old new e
            pair_wrote w₄ =
                rw pair_is
                (wrote_more (simp length-append (omega (arith, pair_length)))
                (wrote_more (simp length-append (omega (arith, pair_length))) (wrote_more (omega (arith, pair_length)) w₁ w₂) w₃) w₄)

pub ruleset pair_laws = (no_length, pair_measured, none_wrote, room_from, room_to, room_rate, room_end, pair_wrote)
