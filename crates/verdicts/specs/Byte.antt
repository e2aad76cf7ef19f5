-- The verdict that a byte stands for, and where an operand holds by it. Assumes nothing.
use Rattle.std.specs.Prelude.{ℕ, ◌≡◌, refl, Bool, true, false, cond, List, eqb, get_or}
use Rattle.csl.specs.Verdicts.{Verdict, No, Yes, Undecided, as_no, as_yes}
use Rattle.csl.specs.Lent.{verdict_byte}

-- "A verdict byte is 0 no, 1 yes, 2 undecided." Any other byte counts as undecided.
abbrev pub verdict_at : ℕ → Verdict
verdict_at b = cond (eqb b 0) No (cond (eqb b 1) Yes Undecided)

-- what a verdict's byte stands for is the verdict
pub byte_read : (v : Verdict) → verdict_at (verdict_byte v) ≡ v
byte_read No = refl
byte_read Yes = refl
byte_read Undecided = refl

-- the verdicts of a row of bytes
abbrev pub verdicts : List ℕ → ℕ → Verdict
verdicts row s = verdict_at (get_or row s 0)

-- a verdict read with undecided as yes, or as no
abbrev pub read_as : Bool → Verdict → Bool
read_as true v = as_yes v
read_as false v = as_no v
