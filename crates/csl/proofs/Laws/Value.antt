-- Values: what all their quotients are, and the order of two readings' values. Assumes nothing.
use Rattle.std.specs.Prelude.{ℕ}
use Rattle.csl.specs.Formula.{PathOf, until_of, next_of, between_of, mapped}
use Rattle.csl.specs.Fraction.{Fraction, IsFraction, Below}
use Rattle.csl.specs.Limit.{Value, exact, limit, limits, Each}
use Rattle.csl.specs.Verdicts.{Verdict, least}
use Rattle.csl.specs.Path.{Reads, reads_until, reads_next, reads_between}
use Rattle.csl.proofs.Laws.Verdicts.{as_no_reads}
use Rattle.csl.proofs.Laws.Fraction.{Under, under_left, under_right}

-- each of its quotients is a fraction
abbrev pub Fractions : Value → Type 0
Fractions (exact x) = IsFraction x
Fractions (limit d x) = (n : ℕ) → IsFraction (x n)
Fractions (limits d e x) = (m n : ℕ) → IsFraction (x m n)

-- one value is under another: of one depth, and each quotient under the other's
pub data Rises : Value → Value → Type 0 where
  exact_rises : (x y : Fraction) → Under x y → Rises (exact x) (exact y)
  limit_rises : (d : ℕ) (x y : ℕ → Fraction) → ((n : ℕ) → Under (x n) (y n)) → Rises (limit d x) (limit d y)
  limits_rise : (d e : ℕ) (x y : ℕ → ℕ → Fraction) → ((m n : ℕ) → Under (x m n) (y m n)) → Rises (limits d e x) (limits d e y)

pub each_over : (z : Fraction) (x y : Value) → Rises x y → Each (λ u. Below z u) x → Each (λ u. Below z u) y
each_over z _ _ (exact_rises x y h) k = under_right z x y h k
each_over z _ _ (limit_rises d x y h) k = λ n l. under_right z (x n) (y n) (h n) (k n l)
each_over z _ _ (limits_rise d e x y h) k = λ m n i j. under_right z (x m n) (y m n) (h m n) (k m n i j)

pub each_under : (z : Fraction) (x y : Value) → Rises x y → Each (λ u. Below u z) y → Each (λ u. Below u z) x
each_under z _ _ (exact_rises x y h) k = under_left x y z h k
each_under z _ _ (limit_rises d x y h) k = λ n l. under_left (x n) (y n) z (h n) (k n l)
each_under z _ _ (limits_rise d e x y h) k = λ m n i j. under_left (x m n) (y m n) z (h m n) (k m n i j)

-- undecided read as no is a reading
pub reads_least : (n : ℕ) (o : PathOf (ℕ → Verdict)) → Reads n o (mapped least o)
reads_least n (until_of t v w) = reads_until t v w (least v) (least w) (λ s l. as_no_reads (v s)) (λ s l. as_no_reads (w s))
reads_least n (next_of v) = reads_next v (least v) (λ s l. as_no_reads (v s))
reads_least n (between_of t u v w) = reads_between t u v w (least v) (least w) (λ s l. as_no_reads (v s)) (λ s l. as_no_reads (w s))
