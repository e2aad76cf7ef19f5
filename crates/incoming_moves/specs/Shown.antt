-- What the index shows of the chain that the moves show: the moves into each state, for a search that goes against them. Assumes nothing.
use Rattle.std.specs.Prelude.{◌≡◌, refl, Bool, true, false, cond, List, ℕ, zero, suc, ◌+◌, ◌≤◌, ◌<◌, length, eqb, ltb}
use Rattle.std.proofs.Common.{ap, sym, ◌∙◌, arith, eq-eqb, ne_eqb, eqb-true, ltb-true, ltb-false}
use Rattle.csl.specs.Chain.{Chain, sum_to, away}
use Rattle.numbers.specs.Sum.{sum_next, sum_mono}
use Rattle.numbers.specs.Filled.{at, filled_else}
use Rattle.rate_matrix.specs.Packed.{word_from, word_to, to_packed}
use Rattle.rate_matrix.specs.Halves.{half, own_rate, row_end}
use Rattle.rate_matrix.specs.Keys.{Standing, standing, standing_in_row, has_key, place_in_row, under_zero, under_next, under_most}
use Rattle.rate_matrix.specs.Words.{from_of, to_of, rate_of, out_of, rate_between, Lines}
use Rattle.rate_matrix.specs.Shown.{Shows}
use Rattle.incoming_moves.specs.Indexed.{row_into, place_of, index_word, IndexAsked, Indexed}

-- the index shows the moves of the chain c of n states by the state that they enter: `row` is where the row of each state begins, and that of the
-- state before it ends; the upper halves of the column at `owns` hold the ends
pub record IndexShows (c : Chain) (index l : List ℕ) (owns n : ℕ) : Type 0 where
  pub states : c.states ≡ n
  pub row : ℕ → ℕ
  pub first : row 0 ≡ 0
  pub ends : (t : ℕ) → t < n → row_end (at l (owns + t)) ≡ row (suc t)
  pub rising : (t : ℕ) → t < n → row t ≤ row (suc t)
  pub within : (t : ℕ) → t < n → row (suc t) ≤ length index
  pub sources : (k : ℕ) → k < length index → word_to (at index k) < n
  -- each word of a state's row is a move into it, where it comes from another state
  pub sound : (t k : ℕ) → t < n → row t ≤ k → k < row (suc t) → (word_to (at index k) ≡ t → ⊥) → 0 < c.rate (word_to (at index k)) t
  -- and each move from another state stands there
  pub place : (s t : ℕ) → s < n → t < n → (s ≡ t → ⊥) → 0 < c.rate s t → ℕ
  pub place_in : (s t : ℕ) (h : s < n) (i : t < n) (d : s ≡ t → ⊥) (r : 0 < c.rate s t)
      → (row t ≤ place s t h i d r) × (place s t h i d r < row (suc t)) × (word_to (at index (place s t h i d r)) ≡ s)

-- words whose first m are lines between n states, as mv₁ has them, can have their index
pub may_index : (mv₁ mv l : List ℕ) {m owns n : ℕ} → Lines mv₁ m n → ((j : ℕ) → j < m → at mv₁ j ≡ at mv j) → m + m ≤ length mv → owns + n ≤ length l
    → ((s : ℕ) → s < n → at l (owns + s) < half) → IndexAsked mv m l owns n
may_index mv₁ mv l k agree room column small =
    record {
      few = k.few;
      states = k.states;
      room = room;
      column = column;
      sources = λ j h. rw (← agree j h) (k.sources j h);
      targets = λ j h. rw (← agree j h) (k.targets j h);
      small = small;
    }

-- the rates to the own state stay below the ends of the rows, and all other words are as they were
module _ {mv mv' : List ℕ} {m owns n : ℕ} {old new : List ℕ} (a : IndexAsked mv m old owns n) (p : Indexed mv mv' m owns n old new) where
  pub own_kept : (s : ℕ) → s < n → own_rate (at new (owns + s)) ≡ at old (owns + s)
  own_kept s h = omega (arith, p.ends.filled s h, a.small s h)

  pub end_is : (s : ℕ) → s < n → row_end (at new (owns + s)) ≡ row_into mv m (suc s)
  end_is s h = omega (arith, p.ends.filled s h, a.small s h)

  pub else_kept : (k : ℕ) → (owns ≤ k → k < owns + n → ⊥) → at new k ≡ at old k
  else_kept k h = filled_else p.ends k h

-- a term of a sum that is not 0
record Term (f : ℕ → ℕ) (n : ℕ) : Type 0 where
  pub which : ℕ
  pub here : which < n
  pub some : 0 < f which

positive : (f : ℕ → ℕ) (n : ℕ) → 0 < sum_to f n → Term f n
unfolding sum_to
positive f zero h = absurd (omega arith)
positive f (suc n) h = go (ltb 0 (sum_to f n)) refl (positive f n)
  where
    go : (b : Bool) → ltb 0 (sum_to f n) ≡ b → (0 < sum_to f n → Term f n) → Term f (suc n)
    go true e r = let x = r (ltb-true 0 (sum_to f n) e) in record { which = x.which; here = omega (arith, x.here); some = x.some }
    go false e r = record { which = n; here = omega arith; some = omega (arith, ltb-false 0 (sum_to f n) e) }

-- a move between two states
record Between (mv : List ℕ) (m s t : ℕ) : Type 0 where
  pub move : ℕ
  pub here : move < m
  pub from : from_of mv move ≡ s
  pub to : to_of mv move ≡ t

-- where the rate between them is not 0 there is one, and one that has a rate makes it not 0
between : (mv : List ℕ) (m s t : ℕ) → 0 < rate_between mv m s t → Between mv m s t
unfolding rate_between
between mv m s t h = go (positive (out_of mv s (λ j. cond (eqb (to_of mv j) t) (rate_of mv j) 0)) m h)
  where
    both : (x y : Bool) (r : ℕ) → 0 < cond x (cond y r 0) 0 → (x ≡ true) × (y ≡ true)
    both true true r p = (refl, refl)
    both true false r p = absurd (omega arith)
    both false y r p = absurd (omega arith)

    go : Term (out_of mv s (λ j. cond (eqb (to_of mv j) t) (rate_of mv j) 0)) m → Between mv m s t
    go x =
        let b = both (eqb (from_of mv x.which) s) (eqb (to_of mv x.which) t) (rate_of mv x.which) x.some in
        record { move = x.which; here = x.here; from = eqb-true (from_of mv x.which) s b.0; to = eqb-true (to_of mv x.which) t b.1 }

rate_least : (mv : List ℕ) (m j : ℕ) → j < m → rate_of mv j ≤ rate_between mv m (from_of mv j) (to_of mv j)
unfolding rate_between
rate_least mv m j h =
    let f : ℕ → ℕ = out_of mv (from_of mv j) (λ i. cond (eqb (to_of mv i) (to_of mv j)) (rate_of mv i) 0) in
    let term : f j ≡ rate_of mv j = rw (eq-eqb (from_of mv j) (from_of mv j) refl, eq-eqb (to_of mv j) (to_of mv j) refl) refl in
    omega (arith, term, sum_next f j, sum_mono f (j + 1) m (omega arith))

away_other : (c : Chain) (s t : ℕ) → (s ≡ t → ⊥) → away c s t ≡ c.rate s t
unfolding away
away_other c s t d = rw (ne_eqb s t d) refl

-- What the first m words of mv₁ show of a chain, the index of the moves mv shows, where mv₁ has them too and each between different states has a
-- rate; it stands in a list of its own, or behind the moves.
module _ {c : Chain} {mv mv' mv₁ old new : List ℕ} (index : List ℕ) {m owns n : ℕ} (a : IndexAsked mv m old owns n) (p : Indexed mv mv' m owns n old new)
    (shows : Shows c mv₁ m n) (agree : (j : ℕ) → j < m → at mv₁ j ≡ at mv j)
    (moving : (j : ℕ) → j < m → (from_of mv j ≡ to_of mv j → ⊥) → 0 < rate_of mv j)
    (long : length index ≡ m) (behind : (k : ℕ) → k < m → at index k ≡ at mv' (m + k)) where
  -- the word at the place of move j
  word_of : (j k : ℕ) → j < m → place_of mv m j ≡ k → k < m → word_to (at index k) ≡ from_of mv j
  word_of j k h e l =
      let z : at mv' (m + k) ≡ index_word (at mv j) = ap (λ (x : ℕ). at mv' (m + x)) (sym e) ∙ p.placed.placed j h in
      ap word_to (behind k l ∙ z)
      ∙ to_packed (to_of mv j) (from_of mv j) 0 (omega (arith, a.targets j h, a.states)) (omega (arith, a.sources j h, a.states))

  -- a move between different states is one of the chain
  rated : (j : ℕ) → j < m → (from_of mv j ≡ to_of mv j → ⊥) → 0 < c.rate (from_of mv j) (to_of mv j)
  rated j h d =
      omega (
        arith,
        moving j h d,
        rw (agree j h) at (rate_least mv₁ m j h),
        shows.rates (from_of mv j) (to_of mv j) (a.sources j h) (a.targets j h),
        away_other c (from_of mv j) (to_of mv j) d,
      )

  module _ (t k : ℕ) (b : row_into mv m t ≤ k) (e : k < row_into mv m (suc t)) where
    stands : Standing (to_of mv) m k
    stands = standing_in_row (to_of mv) m t k b e

    from_is : word_to (at index k) ≡ from_of mv stands.who
    from_is = word_of stands.who k stands.here stands.there (omega (arith, under_most (to_of mv) m (suc t)))

    to_is : to_of mv stands.who ≡ t
    unfolding stands
    to_is = has_key (to_of mv) m t k b e

    is_move : (word_to (at index k) ≡ t → ⊥) → 0 < c.rate (word_to (at index k)) t
    is_move d =
        let r : 0 < c.rate (from_of mv stands.who) (to_of mv stands.who) =
        rated stands.who stands.here (λ z. d (from_is ∙ z ∙ to_is)) in
        rw (from_is) (rw to_is at r)

  source : (k : ℕ) → k < m → word_to (at index k) < n
  source k h =
      let w = standing (to_of mv) m n k a.targets h in
      rw (word_of w.who k w.here w.there h) (a.sources w.who w.here)

  module _ (s t : ℕ) (h : s < n) (i : t < n) (d : s ≡ t → ⊥) (r : 0 < c.rate s t) where
    move : Between mv₁ m s t
    move = between mv₁ m s t (omega (arith, shows.rates s t h i, away_other c s t d))

    abbrev j : ℕ
    j = move.move

    from_s : from_of mv j ≡ s
    from_s = ap word_from (sym (agree j move.here)) ∙ move.from

    to_t : to_of mv j ≡ t
    to_t = ap word_to (sym (agree j move.here)) ∙ move.to

    in_row : (row_into mv m t ≤ place_of mv m j) × (place_of mv m j < row_into mv m (suc t)) × (word_to (at index (place_of mv m j)) ≡ s)
    in_row =
        let here : place_of mv m j < row_into mv m (suc (to_of mv j)) = place_in_row (to_of mv) m j move.here in (
          omega (arith, ap (λ (x : ℕ). row_into mv m x) to_t),
          omega (arith, here, ap (λ (x : ℕ). row_into mv m (suc x)) to_t),
          word_of j (place_of mv m j) move.here refl (omega (arith, here, under_most (to_of mv) m (suc (to_of mv j)))) ∙ from_s,
        )

  pub index_shows : IndexShows c index new owns n
  index_shows =
      record {
        states = shows.states;
        row = row_into mv m;
        first = under_zero (to_of mv) m;
        ends = end_is a p;
        rising = λ t h. omega (arith, under_next (to_of mv) m t);
        within = λ t h. omega (arith, under_most (to_of mv) m (suc t));
        sources = λ k h. source k (omega arith);
        sound = λ t k h b e d. is_move t k b e d;
        place = λ s t h i d r. place_of mv m (move s t h i d r).move;
        place_in = λ s t h i d r. in_row s t h i d r;
      }

-- other words with the same column show the same
pub index_kept : {c : Chain} {index l l' : List ℕ} {owns n : ℕ} → IndexShows c index l owns n → ((t : ℕ) → t < n → at l' (owns + t) ≡ at l (owns + t))
    → IndexShows c index l' owns n
index_kept p e =
    record {
      states = p.states;
      row = p.row;
      first = p.first;
      ends = λ t h. ap row_end (e t h) ∙ p.ends t h;
      rising = p.rising;
      within = p.within;
      sources = p.sources;
      sound = p.sound;
      place = p.place;
      place_in = p.place_in;
    }
