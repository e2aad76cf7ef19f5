-- The line of a state, part by part. Assumes nothing.
use mathlib.Core.Path.{◌≡◌, ◌∙◌}
use mathlib.Core.List.{List, [], ◌∷◌}
use Prim.Native.Nat.{ℕ, ◌+◌}
use native.Mathlib.Omega.{arith}
use lib.ListN.{length, length-append}
use Rattle.csl.specs.Line.{comma, line_feed}
use Rattle.csl.specs.Verdicts.{Verdict}
use Rattle.csl.specs.Report.{decimal, verdict_word, row_text}
use Rattle.decimals.specs.Place.{Room, Wrote}
use Rattle.decimals.specs.Writing.{wrote_length, wrote_more}

module _ (s l u d : ℕ) (v : Verdict) where
  -- how many bytes each part takes
  pub row_length : length (row_text s l u d v)
      ≡ length (decimal s) + (1 + length (decimal l)) + (1 + length (decimal u)) + (1 + length (decimal d)) + (1 + length (verdict_word v)) + 1
  unfolding row_text
  row_length = simp length-append (omega arith)

  -- the parts, each behind the one before: there is room for the next, and so for all
  module _ (at : ℕ) (old : List ℕ) (room : Room at (row_text s l u d v) old) where
    pub room_state : Room at (decimal s) old
    room_state = omega (arith, row_length)

    module _ {a₁ : ℕ} {o₁ : List ℕ} (w₁ : Wrote at (decimal s) old o₁ a₁) where
      long₁ : length o₁ ≡ length old
      long₁ = wrote_length room_state w₁

      pub room_lower : Room a₁ (comma ∷ decimal l) o₁
      room_lower = omega (arith, row_length, long₁)

      module _ {a₂ : ℕ} {o₂ : List ℕ} (w₂ : Wrote a₁ (comma ∷ decimal l) o₁ o₂ a₂) where
        long₂ : length o₂ ≡ length old
        long₂ = wrote_length room_lower w₂ ∙ long₁

        pub room_upper : Room a₂ (comma ∷ decimal u) o₂
        room_upper = omega (arith, row_length, long₂)

        module _ {a₃ : ℕ} {o₃ : List ℕ} (w₃ : Wrote a₂ (comma ∷ decimal u) o₂ o₃ a₃) where
          long₃ : length o₃ ≡ length old
          long₃ = wrote_length room_upper w₃ ∙ long₂

          pub room_depth : Room a₃ (comma ∷ decimal d) o₃
          room_depth = omega (arith, row_length, long₃)

          module _ {a₄ : ℕ} {o₄ : List ℕ} (w₄ : Wrote a₃ (comma ∷ decimal d) o₃ o₄ a₄) where
            long₄ : length o₄ ≡ length old
            long₄ = wrote_length room_depth w₄ ∙ long₃

            pub room_verdict : Room a₄ (comma ∷ verdict_word v) o₄
            room_verdict = omega (arith, row_length, long₄)

            module _ {a₅ : ℕ} {o₅ : List ℕ} (w₅ : Wrote a₄ (comma ∷ verdict_word v) o₄ o₅ a₅) where
              long₅ : length o₅ ≡ length old
              long₅ = wrote_length room_verdict w₅ ∙ long₄

              pub room_end : Room a₅ (line_feed ∷ []) o₅
              room_end = omega (arith, row_length, long₅)

              pub row_wrote : {r : ℕ} {new : List ℕ} → Wrote a₅ (line_feed ∷ []) o₅ new r → Wrote at (row_text s l u d v) old new r
              unfolding row_text
              row_wrote w₆ =
                  wrote_more (simp length-append (omega (arith, row_length)))
                  (wrote_more (simp length-append (omega (arith, row_length)))
                  (wrote_more (simp length-append (omega (arith, row_length)))
                  (wrote_more (simp length-append (omega (arith, row_length)))
                  (wrote_more (omega (arith, row_length)) w₁ w₂) w₃) w₄) w₅) w₆

pub ruleset row_laws = (room_state, room_lower, room_upper, room_depth, room_verdict, room_end, row_wrote)
