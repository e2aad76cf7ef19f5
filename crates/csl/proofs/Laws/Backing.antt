-- What a backing of a path keeps of its operands' verdicts. Assumes nothing.
use Rattle.std.specs.Prelude.{ℕ}
use Rattle.csl.specs.Formula.{Path, until, next_move, between, PathOf}
use Rattle.csl.specs.Chain.{Chain}
use Rattle.csl.specs.Verdicts.{Verdict}
use Rattle.csl.specs.Backing.{PathBacked, operands_of}

pub kept_operands : (c : Chain) (w : Path) (K : PathOf (ℕ → Verdict) → Type 0) (k : PathBacked c w K) → K (operands_of c w K k)
kept_operands c (until t a b) K k = k.keeps
kept_operands c (next_move a) K k = k.keeps
kept_operands c (between t u a b) K k = k.keeps
