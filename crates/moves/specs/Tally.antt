-- The tally of move lines. Assumes nothing.
use Rattle.std.specs.Prelude.{◌≡◌, ℕ, ◌+◌, ◌≤◌, ◌<◌, Bool, false, ◌||◌, List, length, leb, eqb}
use Rattle.csl.specs.Text.{any}
use Rattle.csl.specs.Limits.{most_states}
use Rattle.csl.specs.Moves.{Move, rate_in, rates_out}
use Rattle.csl.specs.Refusal.{strange_state}
use Rattle.numbers.specs.Filled.{at}
use Rattle.moves.specs.Totals.{carried, Carried}
use Rattle.moves.specs.declared.tally.Tally.{Tally}

abbrev pub begun : Tally
begun = record { count = 0; strange = false; still = false }

-- one line more
abbrev pub added : ℕ → Tally → ℕ → ℕ → ℕ → Tally
added n a from to rate =
    record { count = a.count + 1; strange = a.strange || leb n from || leb n to; still = a.still || eqb rate 0 }

-- a rate is 0
abbrev pub any_still : List Move → Bool
any_still ms = any (λ m. eqb m.rate 0) ms

-- A tally and totals of the first of all lines, where `rest` are the others: with these they tell what all lines say. The totals do where the
-- states are known and not too many.
pub record Tallied (n : ℕ) (all rest : List Move) (a : Tally) (totals owns : List ℕ) : Type 0 where
  pub counted : a.count + length rest ≡ length all
  pub strange_told : (a.strange || strange_state n rest) ≡ strange_state n all
  pub still_told : (a.still || any_still rest) ≡ any_still all
  pub carries : Carried totals owns
  pub total_told : n ≤ most_states → a.strange ≡ false → (s : ℕ) → s < n → carried (at totals s + rates_out rest s) ≡ carried (rates_out all s)
  pub own_told : n ≤ most_states → a.strange ≡ false → (s : ℕ) → s < n → carried (at owns s + rate_in rest s s) ≡ carried (rate_in all s s)
