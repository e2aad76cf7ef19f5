-- Words that hold the moves of a sheet, one for each line in its order: laid in rows, without their rates to the own state, they show the sheet's
-- chain. Assumes nothing.
use Rattle.std.specs.Prelude.{◌≡◌, Bool, true, cond, ◌&&◌, List, length, drop}
use Rattle.std.proofs.Math.Path.{refl, sym}
use Rattle.std.proofs.Common.{◌∙◌, arith, get_or-drop}
use Rattle.std.proofs.Math.Bool.{false}
use Prim.Native.Nat.{ℕ, ◌+◌, ◌≤◌, ◌<◌}
use Rattle.std.proofs.Math.Dec.{eqb}
use borrow.Author.Tests.{ne_eqb}
use Rattle.csl.specs.Limits.{most_states, most_moves, most_rate}
use Rattle.csl.specs.Moves.{Move, rate_in, rates_out}
use Rattle.csl.specs.Sheet.{Sheet}
use Rattle.csl.specs.Chain.{chain_of, away}
use Rattle.numbers.specs.Sum.{sum_cong}
use Rattle.accepted.specs.Rates.{Within}
use Rattle.accepted.specs.Sheet.{Sound}
use Rattle.rate_matrix.specs.Packed.{packed_move, word_other, to_packed, from_packed, rate_packed, rate_away}
use Rattle.rate_matrix.specs.Words.{at, from_of, to_of, rate_of, rate_between, exit_of, Lines}
use Rattle.rate_matrix.specs.Laid.{own_of, RowsOf, own_between, stands, line, word_at, from_at, to_at, rows_lines, rows_between}
use Rattle.rate_matrix.specs.Shown.{Shows}
use Rattle.rate_matrix.specs.ByPlace.{move_at, rate_by_place, out_by_place, within_place, moving_place}

-- the first words of mv are the moves ms
abbrev pub Holds : List ℕ → List Move → Type 0
Holds mv ms = (j : ℕ) → j < length ms → at mv j ≡ packed_move (move_at ms j)

-- they stand behind the first m
pub holds_behind : (mv : List ℕ) (m : ℕ) (ms : List Move) → ((j : ℕ) → j < length ms → at mv (m + j) ≡ packed_move (move_at ms j)) → Holds (drop m mv) ms
holds_behind mv m ms h j l = get_or-drop m mv j 0 ∙ h j l

module _ (mv : List ℕ) (ms : List Move) (n : ℕ) (small : n ≤ most_states) (within : Within n ms) (holds : Holds mv ms) where
  from_is : (j : ℕ) → j < length ms → from_of mv j ≡ (move_at ms j).from
  from_is j l =
      let w = within_place n ms within j l in
      rw (holds j l) (from_packed (move_at ms j).from (move_at ms j).to (move_at ms j).rate (omega arith) (omega arith))

  to_is : (j : ℕ) → j < length ms → to_of mv j ≡ (move_at ms j).to
  to_is j l =
      let w = within_place n ms within j l in
      rw (holds j l) (to_packed (move_at ms j).from (move_at ms j).to (move_at ms j).rate (omega arith) (omega arith))

  rate_is : (j : ℕ) → j < length ms → rate_of mv j ≡ (move_at ms j).rate
  rate_is j l =
      let w = within_place n ms within j l in
      rw (holds j l) (rate_packed (move_at ms j).from (move_at ms j).to (move_at ms j).rate (omega arith) (omega arith))

  pair_cond : (x y : Bool) (r : ℕ) → cond x (cond y r 0) 0 ≡ cond (x && y) r 0
  pair_cond true y r = refl
  pair_cond false y r = refl

  rates_stored : (s g : ℕ) → rate_in ms s g ≡ rate_between mv (length ms) s g
  unfolding rate_between
  rates_stored s g =
      rate_by_place ms s g
      ∙ sum_cong _ _ (length ms) λ j l. rw (from_is j l, to_is j l, rate_is j l) (sym (pair_cond (eqb (move_at ms j).from s) (eqb (move_at ms j).to g) (move_at ms j).rate))

  out_stored : (s : ℕ) → rates_out ms s ≡ exit_of mv (length ms) s
  unfolding exit_of
  out_stored s = out_by_place ms s ∙ sum_cong _ _ (length ms) λ j l. rw (from_is j l, rate_is j l) refl

  lines_stored : length ms ≤ most_moves → ((s : ℕ) → rates_out ms s ≤ most_rate) → Lines mv (length ms) n
  lines_stored few limit =
      record {
        states = small;
        few = few;
        sources = λ j l. rw (from_is j l) (within_place n ms within j l).0;
        targets = λ j l. rw (to_is j l) (within_place n ms within j l).1;
        limit = λ s l. omega (arith, limit s, out_stored s);
      }

-- words that hold the moves of a sound sheet are lines, and say its rates to the own state
module _ (lines : List ℕ) (sheet : Sheet) (k : Sound sheet) (holds : Holds lines sheet.moves) where
  abbrev m : ℕ
  m = length sheet.moves

  pub sheet_lines : Lines lines m sheet.states
  sheet_lines = lines_stored lines sheet.moves _ k.few_states k.within holds k.few_moves k.slow

  sheet_rates : (s g : ℕ) → rate_in sheet.moves s g ≡ rate_between lines m s g
  sheet_rates = rates_stored lines sheet.moves _ k.few_states k.within holds

  pub owns_stored : (s : ℕ) → own_of lines m s ≡ rate_in sheet.moves s s
  owns_stored s = own_between lines m s ∙ sym (sheet_rates s s)

  -- in rows they show its chain
  module _ {rows : List ℕ} (r : RowsOf lines rows m) where
    pub shows_stored : Shows (chain_of sheet) rows m sheet.states
    unfolding chain_of away
    shows_stored =
        record {
          states = refl;
          targets = (rows_lines r sheet_lines).targets;
          rates = λ s g h l. rw (sheet_rates s g) (sym (rows_between r sheet_lines s g));
        }

    -- and each word that goes to another state has a rate above 0
    pub moving_stored : (i : ℕ) → i < m → (from_of rows i ≡ to_of rows i → ⊥) → 0 < rate_of rows i
    unfolding word_other
    moving_stored i l d =
        let j : ℕ = line r sheet_lines i l in
        let b : j < m = (stands r sheet_lines i l).here in
        let other : eqb (from_of lines j) (to_of lines j) ≡ false
        = ne_eqb (from_of lines j) (to_of lines j) (λ e. d (from_at r sheet_lines i l ∙ e ∙ sym (to_at r sheet_lines i l))) in
        rw (word_at r sheet_lines i l, rate_away (at lines j), other, rate_is lines sheet.moves _ k.few_states k.within holds j b)
        (moving_place sheet.moves k.moving j b)
