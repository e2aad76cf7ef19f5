-- The bytes so far are set. Assumes nothing.
use Rattle.std.proofs.Common.{◌≡◌, ℕ, ◌<◌, ◌≤◌, length, get_or}
use Rattle.verdict_rows.proofs.row.set.Given as goal

-- the first s bytes are set, and the others are as they were
abbrev pub invariant-loop-s : goal.invariant-loop-s
invariant-loop-s g l =
    record {
      same : length l.row ≡ length l.fn.row;
      each : (k : ℕ) → k < l.s → goal.F-post g l.f k (get_or l.fn.row k 0) (get_or l.row k 0);
      rest : (k : ℕ) → l.s ≤ k → get_or l.row k 0 ≡ get_or l.fn.row k 0;
    }
