-- What "prepared" means of the lent vector words, and how they come to be so. Assumes nothing.
use Rattle.std.specs.Prelude.{◌≡◌, List, ℕ, suc, ◌+◌, ◌≤◌, ◌<◌, length, take, drop}
use Rattle.std.proofs.Common.{◌∙◌, arith}
use Rattle.csl.specs.Limits.{most_states, most_rate}
use Rattle.numbers.specs.Sum.{greatest_le, greatest_most}
use Rattle.rate_matrix.specs.Words.{at, exit_of, top_of, row_of, Lines, InRows}
use Rattle.rate_matrix.specs.Laid.{own_of, LaidIn}
use Rattle.vectors.specs.Places.{values_from, exits_from, weights_from, marks_from, vector_length, owns_from, exit_at, end_at, EndsStored}

-- The move words mv stand in rows, their exit rates and the ends of the rows in their places, for n states, and q is the greatest exit rate.
pub record Rates (mv l : List ℕ) (n q : ℕ) : Type 0 where
  pub lines : Lines mv (length mv) n
  pub rows : InRows mv (length mv)
  pub long : vector_length n ≤ length l
  pub exits : (s : ℕ) → s < n → exit_at l n s ≡ exit_of mv (length mv) s
  pub ends : (s : ℕ) → s < n → end_at l n s ≡ row_of mv (length mv) (suc s)
  pub top : q ≡ top_of mv (length mv) n

-- The words that are worked in hold 0.
pub record Clear (l : List ℕ) (n : ℕ) : Type 0 where
  pub columns : (k : ℕ) → values_from n ≤ k → k < exits_from n → at l k ≡ 0
  pub weights : (k : ℕ) → weights_from n ≤ k → k < marks_from n → at l k ≡ 0

-- Prepared is both.
pub record Prepared (mv l : List ℕ) (n q : ℕ) : Type 0 where
  pub rates : Rates mv l n q
  pub clear : Clear l n

-- words as they were from the exit rates to the rates to the own state keep them; as they were from the values to the marks, but for these rates,
-- they stay prepared
pub rates_kept : {mv l l' : List ℕ} {n q : ℕ} → Rates mv l n q → length l' ≡ length l
    → ((k : ℕ) → exits_from n ≤ k → k < owns_from n → at l' k ≡ at l k) → Rates mv l' n q
rates_kept p e h =
    record {
      lines = p.lines;
      rows = p.rows;
      long = omega (arith, p.long);
      exits = λ s b. h _ (omega arith) (omega arith) ∙ p.exits s b;
      ends = λ s b. h _ (omega arith) (omega arith) ∙ p.ends s b;
      top = p.top;
    }

pub prepared_kept : {mv l l' : List ℕ} {n q : ℕ} → Prepared mv l n q → length l' ≡ length l
    → ((k : ℕ) → values_from n ≤ k → k < marks_from n → (owns_from n ≤ k → k < weights_from n → ⊥) → at l' k ≡ at l k) → Prepared mv l' n q
prepared_kept p e h =
    record {
      rates = rates_kept p.rates e (λ k a b. h k (omega arith) (omega arith) (λ c d. omega arith));
      clear = record {
        columns = λ k a b. h k a (omega arith) (λ c d. omega arith) ∙ p.clear.columns k a b;
        weights = λ k a b. h k (omega arith) b (λ c d. omega arith) ∙ p.clear.weights k a b;
      };
    }

-- so they are where two ends were stored for each state
pub ends_prepared : {mv l l' : List ℕ} {n q : ℕ} {lower upper : ℕ → ℕ} → Prepared mv l n q → EndsStored lower upper n l l' → Prepared mv l' n q
ends_prepared p s = prepared_kept p s.same (λ k a b o. s.after k a)

-- no exit rate is over q, and q is not over the limit
module _ {mv l : List ℕ} {n q : ℕ} (p : Rates mv l n q) where
  pub rates_slow : (s : ℕ) → s < n → exit_of mv (length mv) s ≤ q
  unfolding top_of
  rates_slow s h = rw p.top (greatest_le (exit_of mv (length mv)) s n h)

  pub rates_small : q ≤ most_rate
  unfolding top_of
  rates_small = rw p.top (greatest_most (exit_of mv (length mv)) most_rate n p.lines.limit)

-- m move words behind the first m, and room for what is made of them
pub record PrepareAsked (mv : List ℕ) (m : ℕ) (l : List ℕ) (n : ℕ) : Type 0 where
  pub lines : Lines (drop m mv) m n
  pub behind : m + m ≤ length mv
  pub long : vector_length n ≤ length l

-- these are laid in rows as the first m of mv', without their rates to the own state; the words are prepared for them, with these rates in their
-- place and 0 in the places of the ends too, and all from the marks on is as it was
pub record Laid (mv mv' : List ℕ) (m n : ℕ) (old new : List ℕ) : Type 0 where
  pub laid : LaidIn mv mv' m
  pub prepared : Prepared (take m mv') new n (top_of (take m mv') m n)
  pub owns : (s : ℕ) → s < n → at new (owns_from n + s) ≡ own_of (drop m mv) m s
  pub ends : (k : ℕ) → k < values_from n → at new k ≡ 0
  pub same : length new ≡ length old
  pub beyond : (k : ℕ) → marks_from n ≤ k → at new k ≡ at old k

-- words to be worked in
pub record WorkAsked (l : List ℕ) (n : ℕ) : Type 0 where
  pub states : n ≤ most_states
  pub long : vector_length n ≤ length l

-- the words that are worked in hold 0, and all others are as they were
pub record Cleared (n : ℕ) (old new : List ℕ) : Type 0 where
  pub clear : Clear new n
  pub same : length new ≡ length old
  pub ends : (k : ℕ) → k < values_from n → at new k ≡ at old k
  pub rates : (k : ℕ) → exits_from n ≤ k → k < weights_from n → at new k ≡ at old k
  pub beyond : (k : ℕ) → marks_from n ≤ k → at new k ≡ at old k
