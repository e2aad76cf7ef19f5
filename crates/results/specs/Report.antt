-- The buffers of a filled report, each by itself. Assumes nothing.
use Rattle.std.specs.Prelude.{◌≡◌, List, ℕ, replicate}
use Rattle.csl.specs.Verdicts.{Verdict}
use Rattle.csl.specs.Order.{worst_first}
use Rattle.csl.specs.Lent.{Buffers, needed, verdict_byte, column, written, filled}

-- the seven buffers of an accepted job with n states, m moves and k nodes, each by itself
pub record EachFilled (n m k : ℕ) (lower upper : ℕ → ℕ) (v : ℕ → Verdict) (old new : Buffers (List ℕ)) : Type 0 where
  pub lowers : new.lower ≡ written (column lower n) old.lower
  pub uppers : new.upper ≡ written (column upper n) old.upper
  pub bytes : new.verdicts ≡ written (column (λ s. verdict_byte (v s)) n) old.verdicts
  pub order : new.order ≡ written (worst_first lower upper n) old.order
  pub moves : new.moves ≡ written (replicate (needed n m k).moves 0) old.moves
  pub vectors : new.vectors ≡ written (replicate (needed n m k).vectors 0) old.vectors
  pub marks : new.marks ≡ written (replicate (needed n m k).marks 0) old.marks

-- are a filled report
pub report_filled : {n m k : ℕ} {lower upper : ℕ → ℕ} {v : ℕ → Verdict} {old new : Buffers (List ℕ)}
    → EachFilled n m k lower upper v old new → new ≡ filled n m k lower upper v old
unfolding filled
report_filled e = rw (← e.lowers, ← e.uppers, ← e.bytes, ← e.order, ← e.moves, ← e.vectors, ← e.marks)
