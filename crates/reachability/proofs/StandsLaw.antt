-- A state reached, and what of the search stands then. Assumes nothing.
use mathlib.Core.Path.{◌≡◌, refl, sym, ◌∙◌}
use mathlib.Core.Bool.{Bool, true, false}
use mathlib.Core.Logic.{⊎_elim}
use mathlib.Core.List.{List}
use Prim.Native.Nat.{ℕ, zero, suc, ◌+◌, ◌≤◌, ◌<◌}
use native.Mathlib.Omega.{arith}
use native.Mathlib.Nat.{le-suc_iff}
use lib.Dec.{eqb}
use lib.ListN.{length, set, length-set}
use lib.Seq.{get_or-set_same, get_or-set_other}
use borrow.Author.Tests.{eqb-true, eqb-false}
use borrow.Author.Count.{below_more}
use Rattle.csl.specs.Chain.{Chain, sum_to}
use Rattle.csl.specs.Graph.{Leads}
use Rattle.csl.proofs.Laws.Sum.{sum_cong, sum_term}
use Rattle.numbers.specs.Sum.{sum_next}
use Rattle.numbers.specs.Filled.{at}
use Rattle.vectors.specs.Places.{values_from, value_at}
use Rattle.reachability.specs.Standing.{Stands, Went}

-- one state or another
pub either_state : {A : Type 0} (u s : ℕ) → (u ≡ s → A) → ((u ≡ s → ⊥) → A) → A
either_state {A} u s f g = go (eqb u s) refl
  where
    go : (b : Bool) → eqb u s ≡ b → A
    go true e = f (eqb-true u s e)
    go false e = g (eqb-false u s e)

-- nothing yet, and one part after the other
pub went_none : (n : ℕ) (l rows : List ℕ) (tail : ℕ) → Went n l rows tail l rows tail
went_none n l rows tail =
    record { words = refl; bytes = refl; later = omega arith; queue = λ i h. refl; else = λ k h. refl; shut = λ s h e. e; beyond = λ k h. refl }

pub went_on : {n : ℕ} {l₀ rows₀ l₁ rows₁ l₂ rows₂ : List ℕ} {tail₀ tail₁ tail₂ : ℕ} → Went n l₀ rows₀ tail₀ l₁ rows₁ tail₁
    → Went n l₁ rows₁ tail₁ l₂ rows₂ tail₂ → Went n l₀ rows₀ tail₀ l₂ rows₂ tail₂
went_on v w =
    record {
      words = w.words ∙ v.words;
      bytes = w.bytes ∙ v.bytes;
      later = omega (arith, v.later, w.later);
      queue = λ i h. w.queue i (omega (arith, v.later)) ∙ v.queue i h;
      else = λ k h. w.else k h ∙ v.else k h;
      shut = λ s h e. w.shut s h (v.shut s h e);
      beyond = λ k h. w.beyond k h ∙ v.beyond k h;
    }

-- sums of functions that differ at one place
sum_but_one : (f g : ℕ → ℕ) (s n : ℕ) → s < n → ((u : ℕ) → u < n → (u ≡ s → ⊥) → f u ≡ g u) → sum_to f n + g s ≡ sum_to g n + f s
unfolding sum_to
sum_but_one f g s zero h e = absurd (omega arith)
sum_but_one f g s (suc n) h e =
    ⊎_elim (λ b. omega (arith, sum_but_one f g s n b (λ u m d. e u (omega arith) d), e n (omega arith) (omega arith)))
    (λ (q : suc s ≡ suc n). let z : s ≡ n = omega arith in
    rw z (omega (arith, sum_cong f g n (λ u m. e u (omega arith) (λ y. absurd (omega arith))))))
    (le-suc_iff.0 h)

-- with a sum of 0, no first byte is 1
pub none_left : (rows : List ℕ) (n : ℕ) → sum_to (at rows) n ≡ 0 → (u : ℕ) → u < n → at rows u ≡ 0
none_left rows n e u h = omega (arith, sum_term (at rows) u n h)

-- the two bytes of state s say that it is reached
abbrev pub marks : List ℕ → (n s : ℕ) → List ℕ
marks rows n s = set (set rows s 0) (n + s) 1

module _ (n : ℕ) (rows : List ℕ) (held : n + n ≤ length rows) (s : ℕ) (h : s < n) where
  pub first_here : at (marks rows n s) s ≡ 0
  first_here = get_or-set_other (set rows s 0) (n + s) s 1 0 (omega arith) ∙ get_or-set_same rows s 0 0 (omega arith)

  first_other : (u : ℕ) → u < n → (u ≡ s → ⊥) → at (marks rows n s) u ≡ at rows u
  first_other u b d = get_or-set_other (set rows s 0) (n + s) u 1 0 (omega arith) ∙ get_or-set_other rows s u 0 0 d

  second_here : at (marks rows n s) (n + s) ≡ 1
  second_here = get_or-set_same (set rows s 0) (n + s) 1 0 (rw (length-set rows s 0) (omega arith))

  second_other : (u : ℕ) → (u ≡ s → ⊥) → at (marks rows n s) (n + u) ≡ at rows (n + u)
  second_other u d = get_or-set_other (set rows s 0) (n + s) (n + u) 1 0 (omega arith) ∙ get_or-set_other rows s (n + u) 0 0 (omega arith)

  -- what was reached is
  second_stays : (u : ℕ) → at rows (n + u) ≡ 1 → at (marks rows n s) (n + u) ≡ 1
  second_stays u e = either_state u s (λ z. rw z second_here) (λ d. second_other u d ∙ e)

  first_less : (u : ℕ) → u < n → at (marks rows n s) u ≤ at rows u
  first_less u b = either_state u s (λ z. rw z (omega (arith, first_here))) (λ d. omega (arith, first_other u b d))

  bits_stay : (k : ℕ) → at rows k ≤ 1 → at (marks rows n s) k ≤ 1
  bits_stay k b =
      either_state k (n + s) (λ z. rw z (omega (arith, second_here)))
      (λ d. either_state k s (λ z. rw z (omega (arith, first_here)))
      (λ g. omega (arith, get_or-set_other (set rows s 0) (n + s) k 1 0 d, get_or-set_other rows s k 0 0 g)))

  -- the sum of the first bytes falls by this one, and that of those before it stays
  pub sum_moved : sum_to (at (marks rows n s)) n + at rows s ≡ sum_to (at rows) n
  sum_moved = omega (arith, sum_but_one (at (marks rows n s)) (at rows) s n h first_other, first_here)

  pub sum_before : sum_to (at (marks rows n s)) (s + 1) ≡ sum_to (at rows) s
  sum_before =
      omega (
        arith,
        sum_next (at (marks rows n s)) s,
        first_here,
        sum_cong (at (marks rows n s)) (at rows) s (λ u b. first_other u (omega arith) (λ z. absurd (omega arith))),
      )

  -- and the state queued
  pub reach_went : (l : List ℕ) (tail : ℕ) → tail < n → Went n l rows tail (set l (values_from n + tail) s) (marks rows n s) (tail + 1)
  reach_went l tail room =
      record {
        words = length-set l (values_from n + tail) s;
        bytes = length-set (set rows s 0) (n + s) 1 ∙ length-set rows s 0;
        later = omega arith;
        queue = λ i b. get_or-set_other l (values_from n + tail) (values_from n + i) s 0 (omega arith);
        else = λ k d. get_or-set_other l (values_from n + tail) k s 0 (λ z. d (omega arith) (omega arith));
        shut = λ u b e. omega (arith, first_less u b);
        beyond = λ k b. get_or-set_other (set rows s 0) (n + s) k 1 0 (omega arith) ∙ get_or-set_other rows s k 0 0 (omega arith);
      }

module _ {c : Chain} {x y : ℕ → Bool} {n m : ℕ} {l rows : List ℕ} {tail : ℕ} (v : Stands c x y n m l rows tail) (s : ℕ) (h : s < n) where
  -- reached and queued, the search stands, with m' states counted
  module _ (room : tail < n) (leads : Leads c x y s) (m' : ℕ) (counted : (u : ℕ) → u < m' → (u ≡ s → ⊥) → u < m)
      (few : tail + 1 + sum_to (at (marks rows n s)) m' ≤ m') where
    queue_here : value_at (set l (values_from n + tail) s) n tail ≡ s
    queue_here = get_or-set_same l (values_from n + tail) s 0 (omega (arith, v.long))

    queue_other : (i : ℕ) → i < tail → value_at (set l (values_from n + tail) s) n i ≡ value_at l n i
    queue_other i b = get_or-set_other l (values_from n + tail) (values_from n + i) s 0 (omega arith)

    stays : (u : ℕ) → at rows (n + u) ≡ 1 → at (marks rows n s) (n + u) ≡ 1
    stays = second_stays n rows v.held s h

    was_first : (u : ℕ) → u < n → (u ≡ s → ⊥) → {b : ℕ} → at (marks rows n s) u ≡ b → at rows u ≡ b
    was_first u b d e = sym (first_other n rows v.held s h u b d) ∙ e

    was_second : (u : ℕ) → (u ≡ s → ⊥) → at (marks rows n s) (n + u) ≡ 1 → at rows (n + u) ≡ 1
    was_second u d e = sym (second_other n rows v.held s h u d) ∙ e

    pub reach_stands : Stands c x y n m' (set l (values_from n + tail) s) (marks rows n s) (tail + 1)
    reach_stands =
        record {
          states = v.states;
          held = omega (arith, v.held, length-set (set rows s 0) (n + s) 1, length-set rows s 0);
          long = omega (arith, v.long, length-set l (values_from n + tail) s);
          bits = λ k b. bits_stay n rows v.held s h k (v.bits k b);
          open_first = λ u b e. either_state u s (λ z. absurd (omega (arith, first_here n rows v.held s h, rw z at e)))
              (λ d. v.open_first u b (was_first u b d e));
          shut_reached = λ u b e f. either_state u s (λ z. rw z (second_here n rows v.held s h))
              (λ d. stays u (v.shut_reached u b e (was_first u b d f)));
          sound = λ u b e. either_state u s (λ z. rw z leads) (λ d. v.sound u b (was_second u d e));
          second = λ u b e. stays u (v.second u b e);
          apart = λ u b f e. either_state u s (λ z. absurd (omega (arith, first_here n rows v.held s h, rw z at e)))
              (λ d. second_other n rows v.held s h u d ∙ v.apart u (counted u b d) f (was_first u f d e));
          queued = λ u b f e. either_state u s (λ z. record { place = tail; early = omega arith; is = queue_here ∙ sym z })
              (λ d. let q = v.queued u (counted u b d) f (was_second u d e) in
              record { place = q.place; early = omega (arith, q.early); is = queue_other q.place q.early ∙ q.is });
          queue_states = below_more _ tail (λ i b. rw (queue_other i b) (v.queue_states i b)) (rw queue_here h);
          queue_reached = below_more _ tail (λ i b. rw (queue_other i b) (stays (value_at l n i) (v.queue_reached i b)))
              (rw queue_here (second_here n rows v.held s h));
          few = few;
        }

-- the place behind the queue may hold anything
module _ (n : ℕ) (l : List ℕ) (tail : ℕ) (room : tail < n) (s : ℕ) where
  free : (i : ℕ) → i < tail → value_at (set l (values_from n + tail) s) n i ≡ value_at l n i
  free i b = get_or-set_other l (values_from n + tail) (values_from n + i) s 0 (omega arith)

  pub free_went : (rows : List ℕ) → Went n l rows tail (set l (values_from n + tail) s) rows tail
  free_went rows =
      record {
        words = length-set l (values_from n + tail) s;
        bytes = refl;
        later = omega arith;
        queue = free;
        else = λ k d. get_or-set_other l (values_from n + tail) k s 0 (λ z. d (omega arith) (omega arith));
        shut = λ u b e. e;
        beyond = λ k b. refl;
      }

  pub free_stands : {c : Chain} {x y : ℕ → Bool} {m : ℕ} {rows : List ℕ} → Stands c x y n m l rows tail
      → Stands c x y n m (set l (values_from n + tail) s) rows tail
  free_stands v =
      record {
        states = v.states;
        held = v.held;
        long = omega (arith, v.long, length-set l (values_from n + tail) s);
        bits = v.bits;
        open_first = v.open_first;
        shut_reached = v.shut_reached;
        sound = v.sound;
        second = v.second;
        apart = v.apart;
        queued = λ u b f e. let q = v.queued u b f e in
            record { place = q.place; early = q.early; is = free q.place q.early ∙ q.is };
        queue_states = λ i b. rw (free i b) (v.queue_states i b);
        queue_reached = λ i b. rw (free i b) (v.queue_reached i b);
        few = v.few;
      }
