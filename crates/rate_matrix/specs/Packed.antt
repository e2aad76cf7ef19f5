-- A move as a word: a digit for each of its states, with room for as many states as a sheet can have, and its rate above them.
-- Assumes nothing.
use Rattle.std.specs.Prelude.{◌≡◌, Bool, ℕ, ◌+◌, ◌*◌, ◌/◌, ◌%◌, ◌<◌, eqb}
use Rattle.std.proofs.Math.Path.{refl}
use Rattle.std.proofs.Math.Bool.{true, false, cond}
use native.Mathlib.Omega.{arith}
use Rattle.csl.specs.Limits.{most_states}
use Rattle.csl.specs.Moves.{Move}

abbrev pub packed : (from to rate : ℕ) → ℕ
packed from to rate = rate * (most_states * most_states) + from * most_states + to

abbrev pub packed_move : Move → ℕ
packed_move m = packed m.from m.to m.rate

-- what a word holds
abbrev pub word_to : ℕ → ℕ
word_to word = word % most_states

abbrev pub word_from : ℕ → ℕ
word_from word = word / most_states % most_states

abbrev pub word_rate : ℕ → ℕ
word_rate word = word / (most_states * most_states)

-- a packed word holds what was packed, where the states are such as a sheet can have
module _ (from to rate : ℕ) (f : from < most_states) (t : to < most_states) where
  pub to_packed : word_to (packed from to rate) ≡ to
  to_packed = omega arith

  pub from_packed : word_from (packed from to rate) ≡ from
  from_packed = omega arith

  pub rate_packed : word_rate (packed from to rate) ≡ rate
  rate_packed = omega arith

-- the word without its rate
abbrev pub word_states : ℕ → ℕ
word_states word = word % (most_states * most_states)

-- its rate if it goes to its own state, its rate if it goes to another, and the word without the first
unfoldable pub word_own : ℕ → ℕ
word_own word = cond (eqb (word_from word) (word_to word)) (word_rate word) 0

unfoldable pub word_other : ℕ → ℕ
word_other word = cond (eqb (word_from word) (word_to word)) 0 (word_rate word)

unfoldable pub word_away : ℕ → ℕ
word_away word = cond (eqb (word_from word) (word_to word)) (word_states word) word

-- its states stay
module _ (word : ℕ) where
  pub to_away : word_to (word_away word) ≡ word_to word
  unfolding word_away
  to_away = go (eqb (word_from word) (word_to word))
    where
      go : (t : Bool) → word_to (cond t (word % (most_states * most_states)) word) ≡ word_to word
      go true = omega arith
      go false = refl

  pub from_away : word_from (word_away word) ≡ word_from word
  unfolding word_away
  from_away = go (eqb (word_from word) (word_to word))
    where
      go : (t : Bool) → word_from (cond t (word % (most_states * most_states)) word) ≡ word_from word
      go true = omega arith
      go false = refl

  pub rate_away : word_rate (word_away word) ≡ word_other word
  unfolding word_away word_other
  rate_away = go (eqb (word_from word) (word_to word))
    where
      go : (t : Bool) → word_rate (cond t (word % (most_states * most_states)) word) ≡ cond t 0 (word_rate word)
      go true = omega arith
      go false = refl
