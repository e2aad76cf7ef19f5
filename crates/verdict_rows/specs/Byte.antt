-- The byte of a verdict that follows from other bytes, or from words. Assumes nothing.
use Rattle.std.specs.Prelude.{◌≡◌, refl, Bool, true, false, ℕ, ◌/◌, ◌%◌, ◌^◌, cond, eqb, ltb}
use Rattle.csl.specs.Limits.{billion}
use Rattle.csl.specs.Formula.{Comparison}
use Rattle.csl.specs.Verdicts.{marked, negation, conjunction, judged, as_no}
use Rattle.csl.specs.Laws.Ruling.{moves_verdict}
use Rattle.csl.specs.Lent.{verdict_byte}
use Rattle.verdicts.specs.Byte.{verdict_at}

-- "a label is yes where its mark in the labels text is 1": a state's marks are the bits of a word, the lowest that of label 0
unfoldable pub label_byte : (word label : ℕ) → ℕ
label_byte word label = verdict_byte (marked (eqb (word / 2 ^ label % 2) 1))

-- "`!` exchanges yes and no"
unfoldable pub negated_byte : ℕ → ℕ
negated_byte a = verdict_byte (negation (verdict_at a))

-- "`&` is no if either is no, yes if both are yes, else undecided"
unfoldable pub joined_byte : ℕ → ℕ → ℕ
joined_byte a b = verdict_byte (conjunction (verdict_at a) (verdict_at b))

-- a `P` from its comparison, its threshold and its ends
unfoldable pub judged_byte : Comparison → ℕ → (lower upper : ℕ) → ℕ
judged_byte r p lower upper = verdict_byte (judged r p lower upper)

-- a `P` that the moves decide, from a byte that says whether what its threshold asks for holds
unfoldable pub told_byte : Comparison → ℕ → ℕ → ℕ
told_byte r p b = verdict_byte (moves_verdict r p (as_no (verdict_at b)) (as_no (verdict_at b)))

-- the byte that says so of a next move with these ends: possible with the threshold 0, certain with 1,000,000,000
unfoldable pub next_byte : (p lower upper : ℕ) → ℕ
next_byte p lower upper = verdict_byte (marked (cond (eqb p 0) (ltb 0 upper) (eqb lower billion)))

-- which is read as it was meant
pub next_told : (p lower upper : ℕ) → as_no (verdict_at (next_byte p lower upper)) ≡ cond (eqb p 0) (ltb 0 upper) (eqb lower billion)
unfolding next_byte
next_told p lower upper = told (cond (eqb p 0) (ltb 0 upper) (eqb lower billion))
  where
    told : (b : Bool) → as_no (verdict_at (verdict_byte (marked b))) ≡ b
    told true = refl
    told false = refl
