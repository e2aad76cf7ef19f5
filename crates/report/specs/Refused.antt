-- How long the text of a refusal is. Assumes nothing.
use Rattle.std.specs.Prelude.{◌≡◌, ℕ, ◌+◌, ◌≤◌, ◌<◌, length}
use Rattle.std.proofs.Common.{arith, length-append}
use Rattle.csl.specs.Report.{decimal, refusal_text}
use Rattle.csl.proofs.Laws.Decimal.{length_within}

pub refusal_length : (n : ℕ) → length (refusal_text n) ≡ length (decimal n) + 9
unfolding refusal_text
refusal_length n = simp length-append (omega arith)

-- with a number of at most two digits
pub refusal_few : (n : ℕ) → n < 100 → length (refusal_text n) ≤ 11
refusal_few n h = omega (arith, refusal_length n, length_within 1 n (omega arith))
