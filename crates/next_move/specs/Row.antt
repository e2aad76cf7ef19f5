-- What enters states where the operand holds, by the words of one row. Assumes nothing.
use Rattle.std.specs.Prelude.{◌≡◌, Bool, true, false, List, ℕ, ◌+◌, ◌^◌, ◌≤◌, ◌<◌, length}
use Rattle.csl.specs.Chain.{sum_to}
use Rattle.csl.specs.Phase.{bit}
use Rattle.verdicts.specs.Byte.{verdicts, read_as}
use Rattle.rate_matrix.specs.Words.{to_of, pull}
use Rattle.next_move.specs.declared.entering.Entering.{Entering}

-- 1 at a state where the operand holds, undecided read as yes or as no, and 0 elsewhere
abbrev pub held_in : Bool → List ℕ → ℕ → ℕ
held_in b operand s = bit (read_as b (verdicts operand s))

-- a row to be added up
pub record RowAsked (mv operand : List ℕ) (n begin end : ℕ) : Type 0 where
  pub targets : (j : ℕ) → j < length mv → to_of mv j < n
  pub room : n ≤ length operand
  pub part : begin ≤ end
  pub within : end ≤ length mv
  pub fits : (b : Bool) → sum_to (pull mv (held_in b operand)) end < 2 ^ 64 + sum_to (pull mv (held_in b operand)) begin

-- its sum, for one reading
abbrev pub RowIs : (b : Bool) (mv operand : List ℕ) (begin end sum : ℕ) → Type 0
RowIs b mv operand begin end sum = sum + sum_to (pull mv (held_in b operand)) begin ≡ sum_to (pull mv (held_in b operand)) end

-- and for both
pub record Entered (mv operand : List ℕ) (begin end : ℕ) (r : Entering) : Type 0 where
  pub low : RowIs false mv operand begin end r.low
  pub high : RowIs true mv operand begin end r.high
