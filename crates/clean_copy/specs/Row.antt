-- The lines of the copy from one state, and their parts: a line for each state that it has a rate to. Assumes nothing.
use Rattle.std.specs.Prelude.{◌≡◌, refl, cond, List, [], ◌∷◌, ◌++◌, ℕ, zero, suc, ◌+◌, ◌<◌, eqb}
use Rattle.std.proofs.Common.{append_assoc, arith, add-one}
use Rattle.csl.specs.Text.{Text}
use Rattle.csl.specs.Moves.{Move}
use Rattle.csl.specs.Copy.{lines_text, pairs_from, pairs_below}
use Rattle.numbers.specs.Filled.{at}

-- the pair from s to t, where its rate is above 0; its line
abbrev pub pair_of : (s t rate : ℕ) → List Move
pair_of s t rate = cond (eqb rate 0) [] (record { from = s; to = t; rate = rate } ∷ [])

unfoldable pub pair_text : (s t rate : ℕ) → Text
pair_text s t rate = lines_text (pair_of s t rate)

-- the lines from s to the states below t, where the rates from s stand in a list
unfoldable pub row_lines : List ℕ → (s t : ℕ) → Text
row_lines rates s t = lines_text (pairs_from (λ _ g. at rates g) s t)

-- the lines of two lists, one behind the other
pub lines_append : (a b : List Move) → lines_text (a ++ b) ≡ lines_text a ++ lines_text b
unfolding lines_text
lines_append [] b = refl
lines_append (m ∷ ms) b = rw (lines_append ms b) (simp append_assoc)

-- one state more
pub row_next : (rates : List ℕ) (s t : ℕ) → row_lines rates s (t + 1) ≡ row_lines rates s t ++ pair_text s t (at rates t)
unfolding row_lines pair_text pairs_from
row_next rates s t = rw (add-one t) (lines_append (pairs_from (λ _ g. at rates g) s t) (pair_of s t (at rates t)))

-- by rates that are the same to these states
pub pairs_same : (f g : ℕ → ℕ → ℕ) (s t : ℕ) → ((k : ℕ) → k < t → f s k ≡ g s k) → pairs_from f s t ≡ pairs_from g s t
unfolding pairs_from
pairs_same f g s zero h = refl
pairs_same f g s (suc t) h = rw (pairs_same f g s t (λ k l. h k (omega arith)), h t (omega arith)) refl

pub below_same : (f g : ℕ → ℕ → ℕ) (n s : ℕ) → ((i k : ℕ) → i < s → k < n → f i k ≡ g i k) → pairs_below f n s ≡ pairs_below g n s
unfolding pairs_below
below_same f g n zero h = refl
below_same f g n (suc s) h =
    rw (below_same f g n s (λ i k a b. h i k (omega arith) b), pairs_same f g s n (λ k b. h s k (omega arith) b)) refl
