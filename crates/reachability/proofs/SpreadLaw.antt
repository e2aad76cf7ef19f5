-- One queued state after the other: its row of the index is found and gone through. Assumes nothing.
use mathlib.Core.Path.{◌≡◌, ap, sym, ◌∙◌}
use mathlib.Core.Bool.{Bool, true}
use mathlib.Core.List.{List}
use Prim.Native.Nat.{ℕ, suc, ◌+◌, ◌-◌, ◌*◌, ◌≤◌, ◌<◌}
use native.Mathlib.Omega.{arith}
use lib.ListN.{length}
use borrow.Author.Tests.{ne_eqb}
use borrow.Author.Count.{below_more}
use mir.Val.{Fits}
use mir.Syntax.{w64}
use Rattle.csl.specs.Chain.{Chain, sum_to}
use Rattle.csl.specs.Graph.{Leads, moves}
use Rattle.numbers.specs.Filled.{at}
use Rattle.rate_matrix.specs.Packed.{word_to}
use Rattle.rate_matrix.specs.Halves.{row_end}
use Rattle.vectors.specs.Places.{owns_from, value_at, index_end_at}
use Rattle.reachability.specs.Standing.{Queued, Stands, Went}
use Rattle.reachability.specs.Asked.{Enters, EnterAsked, Entered, EnterLeaves, RowAsked, row_begin, Spreads, SpreadAsked, SpreadLeaves}
use Rattle.reachability.proofs.StandsLaw.{either_state, none_left, went_none, went_on}

-- the first `head` states of the queue are gone through: no state that a word of their rows names is left to be reached
pub record Going (c : Chain) (x y : ℕ → Bool) (index : List ℕ) (row : ℕ → ℕ) (n most : ℕ) (l₀ rows₀ : List ℕ) (tail₀ : ℕ) (l rows : List ℕ)
    (tail head : ℕ) : Type 0 where
  pub stands : Stands c x y n n l rows tail
  pub total : tail + sum_to (at rows) n ≡ most
  pub went : Went n l₀ rows₀ tail₀ l rows tail
  pub reached : (i : ℕ) → i < head → (k : ℕ) → row (value_at l n i) ≤ k → k < row (suc (value_at l n i)) → at rows (word_to (at index k)) ≡ 0

pub record Inv (index l₀ rows₀ : List ℕ) (n tail₀ most : ℕ) (l rows : List ℕ) (tail head : ℕ) : Type 0 where
  pub asked : SpreadAsked index l₀ rows₀ n tail₀ most
  pub within : head ≤ tail
  pub done : (c : Chain) (x y : ℕ → Bool) (a : Spreads c x y index l₀ rows₀ n tail₀ most) → Going c x y index a.shows.row n most l₀ rows₀ tail₀ l rows tail head

pub start : {index l rows : List ℕ} {n tail most : ℕ} → SpreadAsked index l rows n tail most → Inv index l rows n tail most l rows tail 0
start {index} {l} {rows} {n} {tail} a =
    record {
      asked = a;
      within = omega arith;
      done = λ c x y e. record { stands = e.stands; total = e.total; went = went_none n l rows tail; reached = λ i h. absurd (omega arith) };
    }

-- the row of the queued state t, by the words as they were
module _ {c : Chain} {x y : ℕ → Bool} {index l₀ rows₀ : List ℕ} {n tail₀ most : ℕ} (a : Spreads c x y index l₀ rows₀ n tail₀ most) {l rows : List ℕ} {tail head : ℕ}
    (g : Going c x y index a.shows.row n most l₀ rows₀ tail₀ l rows tail head) where
  end_is : (t : ℕ) → t < n → index_end_at l n t ≡ a.shows.row (suc t)
  end_is t h = ap row_end (g.went.else (owns_from n + t) (λ p q. absurd (omega arith))) ∙ a.shows.ends t h

  begin_is : (t : ℕ) → t < n → row_begin l n t ≡ a.shows.row t
  unfolding row_begin
  begin_is t h =
      either_state t 0 (λ e. rw e (sym a.shows.first))
      (λ d. let e : suc (t - 1) ≡ t = omega arith in rw (ne_eqb t 0 d) (end_is (t - 1) (omega arith) ∙ ap a.shows.row e))

  module _ (h : head < tail) where
    abbrev t : ℕ
    t = value_at l n head

    here : t < n
    here = g.stands.queue_states head h

    leads : Leads c x y t
    leads = g.stands.sound t here (g.stands.queue_reached head h)

    may_enters : (begin end : ℕ) → begin ≡ row_begin l n t → end ≡ index_end_at l n t → Enters c x y index l rows n begin end tail most
    may_enters begin end b e =
        let low : begin ≡ a.shows.row t = b ∙ begin_is t here in
        let high : end ≡ a.shows.row (suc t) = e ∙ end_is t here in
        record {
          stands = g.stands;
          total = g.total;
          part = omega (arith, low, high, a.shows.rising t here);
          within = omega (arith, high, a.shows.within t here);
          sources = a.shows.sources;
          leads = λ k p q o. either_state (word_to (at index k)) t (λ z. rw z leads)
              (λ d. moves (word_to (at index k)) t o (omega (arith, here, a.shows.states))
              (a.shows.sound t k here (omega (arith, low)) (omega (arith, high)) d) leads);
        }

    -- the row gone through
    module _ {l' rows' : List ℕ} {tail' begin end : ℕ} (b : begin ≡ row_begin l n t) (e : end ≡ index_end_at l n t)
        (w : Entered c x y index n begin end most l rows tail l' rows' tail') where
      kept : (i : ℕ) → i < tail → value_at l' n i ≡ value_at l n i
      kept i m = w.went.queue i m

      going_on : Going c x y index a.shows.row n most l₀ rows₀ tail₀ l' rows' tail' (head + 1)
      going_on =
          record {
            stands = w.stands;
            total = w.total;
            went = went_on g.went w.went;
            reached = below_more _ head
                (λ i m k p q.
                let u : value_at l n i < n = g.stands.queue_states i (omega arith) in
                let p' : a.shows.row (value_at l n i) ≤ k = rw (kept i (omega arith)) at p in
                let q' : k < a.shows.row (suc (value_at l n i)) = rw (kept i (omega arith)) at q in
                w.went.shut (word_to (at index k)) (a.shows.sources k (omega (arith, a.shows.within (value_at l n i) u))) (g.reached i m k p' q'))
                (λ k p q.
                let p' : a.shows.row t ≤ k = rw (kept head h) at p in
                let q' : k < a.shows.row (suc t) = rw (kept head h) at q in
                w.reached k (omega (arith, b ∙ begin_is t here)) (omega (arith, e ∙ end_is t here)));
          }

  -- all gone through, what is reached is closed
  closed : tail ≤ head → (s t : ℕ) → s < n → t < n → x s ≡ true → 0 < c.rate s t → at rows (n + t) ≡ 1 → at rows (n + s) ≡ 1
  closed h s t i j e r o = either_state s t (λ z. rw z o) other
    where
      other : (s ≡ t → ⊥) → at rows (n + s) ≡ 1
      other d =
          let q : Queued l n tail t = g.stands.queued t j j o in
          let p = a.shows.place_in s t i j d r in
          let z : at rows (word_to (at index (a.shows.place s t i j d r))) ≡ 0
          = g.reached q.place (omega (arith, q.early)) (a.shows.place s t i j d r) (rw q.is p.0) (rw q.is p.1) in
          g.stands.shut_reached s i e (ap (at rows) (sym p.2) ∙ z)

module _ {index l₀ rows₀ : List ℕ} {n tail₀ most : ℕ} {l rows : List ℕ} {tail head : ℕ} (v : Inv index l₀ rows₀ n tail₀ most l rows tail head) where
  now : Going v.asked.c v.asked.x v.asked.y index v.asked.spreads.shows.row n most l₀ rows₀ tail₀ l rows tail head
  now = v.done v.asked.c v.asked.x v.asked.y v.asked.spreads

  module _ (h : head < tail) where
    head_less : head < n
    head_less = omega (arith, now.stands.few)

    few : n ≤ 512
    few = now.stands.states

    pub falls : n - (head + 1) < n - head
    falls = omega (arith, head_less)

    pub place_fits : Fits w64 (2 * n + head)
    place_fits = omega (arith, head_less, few)

    pub bytes_fit : Fits w64 ((2 * n + head) * 8)
    bytes_fit = omega (arith, head_less, few)

    pub head_fits : Fits w64 (head + 1)
    head_fits = omega (arith, head_less, few)

    pub in_values : 2 * n + head < length l
    in_values = omega (arith, head_less, now.stands.long)

    state : value_at l n head < n
    state = now.stands.queue_states head h

    pub may_row : RowAsked l n (value_at l n head)
    may_row = record { states = few; here = state; long = omega (arith, v.asked.spreads.long, now.went.words) }

    pub own_fits : Fits w64 (8 * n + value_at l n head)
    own_fits = omega (arith, state, few)

    pub own_bytes_fit : Fits w64 ((8 * n + value_at l n head) * 8)
    own_bytes_fit = omega (arith, state, few)

    pub in_owns : 8 * n + value_at l n head < length l
    in_owns = omega (arith, state, v.asked.spreads.long, now.went.words)

    module _ (begin end : ℕ) (b : begin ≡ row_begin l n (value_at l n head)) (e : end ≡ index_end_at l n (value_at l n head)) where
      pub may_enter : EnterAsked index l rows n begin end tail most
      may_enter = record { c = v.asked.c; x = v.asked.x; y = v.asked.y; enters = may_enters v.asked.spreads now h begin end b e }

      pub turn : {l' rows' : List ℕ} {tail' : ℕ} → EnterLeaves index n begin end most l rows tail l' rows' tail'
          → Inv index l₀ rows₀ n tail₀ most l' rows' tail' (head + 1)
      turn f =
          record {
            asked = v.asked;
            within =
                let w = f.entered v.asked.c v.asked.x v.asked.y (may_enters v.asked.spreads now h begin end b e) in
                omega (arith, w.went.later);
            done = λ c x y a. let g = v.done c x y a in going_on a g h b e (f.entered c x y (may_enters a g h begin end b e));
          }

  pub finish : tail ≤ head → SpreadLeaves index n most l₀ rows₀ tail₀ l rows
  finish h =
      record {
        tail = tail;
        spread = λ c x y a. let g = v.done c x y a in record { stands = g.stands; went = g.went; closed = closed a g h };
      }

  -- no state is left to be reached
  pub finish_early : head < tail → tail ≡ most → SpreadLeaves index n most l₀ rows₀ tail₀ l rows
  finish_early h e =
      record {
        tail = tail;
        spread = λ c x y a.
            let g = v.done c x y a in
            record {
              stands = g.stands;
              went = g.went;
              closed = λ s t i j o r p. g.stands.shut_reached s i o (none_left rows n (omega (arith, g.total)) s i);
            };
      }

  pub finish_words : length l ≡ length l₀
  finish_words = now.went.words

  pub finish_bytes : length rows ≡ length rows₀
  finish_bytes = now.went.bytes

pub ruleset spread_laws = (
  start,
  falls,
  place_fits,
  bytes_fit,
  head_fits,
  in_values,
  may_row,
  own_fits,
  own_bytes_fit,
  in_owns,
  may_enter,
  turn,
  finish,
  finish_early,
  finish_words,
  finish_bytes,
)
