-- What storing a sheet asks, and what the words hold then. Assumes nothing.
use Rattle.std.specs.Prelude.{◌≡◌, Bool, true, List, ℕ, ◌+◌, ◌≤◌, ◌<◌, length, take, drop}
use Rattle.csl.specs.Text.{Text}
use Rattle.csl.specs.Limits.{most_names, most_states}
use Rattle.csl.specs.Labels.{labels_layout, names_of, states_of}
use Rattle.csl.specs.Moves.{moves_of, rate_in}
use Rattle.csl.specs.Sheet.{sheet_of}
use Rattle.csl.specs.Chain.{chain_of, top_rate}
use Rattle.accepted.specs.Sheet.{SheetPassed}
use Rattle.numbers.specs.Filled.{at}
use Rattle.labels.specs.Words.{state_word}
use Rattle.rate_matrix.specs.Laid.{RowsOf}
use Rattle.rate_matrix.specs.Shown.{Shows}
use Rattle.rate_matrix.specs.Stored.{Holds}
use Rattle.incoming_moves.specs.Indexed.{Indexed}
use Rattle.incoming_moves.specs.Shown.{IndexShows}
use Rattle.vectors.specs.Places.{values_from, owns_from, marks_from, vector_length, own_at}
use Rattle.vectors.specs.Prepared.{Prepared}

-- labels whose marks are to be stored, and room for them
pub record MarksAsked (labels : Text) (names : ℕ) (l : List ℕ) (n : ℕ) : Type 0 where
  pub layout : labels_layout labels ≡ true
  pub count : names ≡ length (names_of labels)
  pub few : names ≤ most_names
  pub states : n ≡ states_of labels
  pub small : n ≤ most_states
  pub long : vector_length n ≤ length l

-- a sheet that passed its tests is to be stored in words that have room for it
pub record StoreAsked (moves labels : Text) (words vectors : List ℕ) : Type 0 where
  pub passed : SheetPassed moves labels
  pub room : length (moves_of moves) + length (moves_of moves) ≤ length words
  pub long : vector_length (states_of labels) ≤ length vectors

-- The index of the first m words, where it is wanted: all words but those behind them are as they were, and all others but for the upper halves
-- of the column of the rates to the own state.
pub record IndexStored (wanted : Bool) (mv mv' : List ℕ) (m n : ℕ) (old new : List ℕ) : Type 0 where
  pub same : length mv' ≡ length mv
  pub moves : (j : ℕ) → j < m → at mv' j ≡ at mv j
  pub after : (k : ℕ) → m + m ≤ k → at mv' k ≡ at mv k
  pub long : length new ≡ length old
  pub owns : (s : ℕ) → s < n → own_at new n s ≡ at old (owns_from n + s)
  pub else : (k : ℕ) → (owns_from n ≤ k → k < owns_from n + n → ⊥) → at new k ≡ at old k
  pub index : wanted ≡ true → Indexed mv mv' m (owns_from n) n old new

-- The first move words are the sheet's moves, of which `lines` has a word for each, in rows by the state that they leave, and show its chain; behind them, where it is wanted, is the index of the moves by the state
-- that they enter. The vector words are prepared for them at the sheet's uniformisation rate, with the rates to the own state and the marks of the
-- labels in their places, and with 0 in the places of the ends too. All other words are as they were.
pub record Stored (wanted : Bool) (moves labels : Text) (words₀ words vectors₀ vectors : List ℕ) : Type 0 where
  pub lines : List ℕ
  pub holds : Holds lines (moves_of moves)
  pub rows : RowsOf lines (take (length (moves_of moves)) words) (length (moves_of moves))
  pub shows : Shows (chain_of (sheet_of moves labels)) (take (length (moves_of moves)) words) (length (take (length (moves_of moves)) words)) (states_of labels)
  pub index : wanted ≡ true → IndexShows (chain_of (sheet_of moves labels)) (take (length (moves_of moves)) (drop (length (moves_of moves)) words)) vectors
      (owns_from (states_of labels)) (states_of labels)
  pub words_same : length words ≡ length words₀
  pub words_beyond : (k : ℕ) → length (moves_of moves) + length (moves_of moves) ≤ k → at words k ≡ at words₀ k
  pub taken : length (take (length (moves_of moves)) words) ≡ length (moves_of moves)
  pub prepared : Prepared (take (length (moves_of moves)) words) vectors (states_of labels) (top_rate (chain_of (sheet_of moves labels)))
  pub owns : (s : ℕ) → s < states_of labels → own_at vectors (states_of labels) s ≡ rate_in (moves_of moves) s s
  pub ends : (k : ℕ) → k < values_from (states_of labels) → at vectors k ≡ 0
  pub marks : (s : ℕ) → s < states_of labels → at vectors (marks_from (states_of labels) + s) ≡ state_word labels s
  pub same : length vectors ≡ length vectors₀
  pub beyond : (k : ℕ) → vector_length (states_of labels) ≤ k → at vectors k ≡ at vectors₀ k
