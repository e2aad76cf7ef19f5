-- The states of the second operand, one after the other. Assumes nothing.
use mathlib.Core.Path.{◌≡◌, refl}
use mathlib.Core.Bool.{Bool, true, false}
use mathlib.Core.List.{List}
use Prim.Native.Nat.{ℕ, ◌+◌, ◌≤◌, ◌<◌}
use native.Mathlib.Omega.{arith}
use lib.Dec.{eqb}
use lib.ListN.{length}
use borrow.Author.Tests.{eqb-true, eqb-false}
use Rattle.csl.specs.Chain.{Chain}
use Rattle.csl.specs.Graph.{arrived}
use Rattle.numbers.specs.Sum.{sum_zero, sum_next}
use Rattle.numbers.specs.Filled.{at}
use Rattle.reachability.specs.Standing.{Stands, Went}
use Rattle.reachability.specs.Asked.{first_holds, second_holds, ReachAsked, rows_reached, words_reached, tail_reached, SeedAsked, SeedLeaves}
use Rattle.reachability.proofs.ByteLaw.{decided_bit, one_of_holds, holds_of_one}
use Rattle.reachability.proofs.StandsLaw.{either_state, went_none, went_on, sum_before, reach_went, reach_stands}

-- the first s states are passed
pub record Inv (l₀ rows₀ l rows : List ℕ) (n tail s : ℕ) : Type 0 where
  pub asked : SeedAsked l₀ rows₀ n
  pub within : s ≤ n
  pub short : tail ≤ s
  pub stands : (c : Chain) → Stands c (first_holds rows₀) (second_holds rows₀ n) n s l rows tail
  pub went : Went n l₀ rows₀ 0 l rows tail

pub start : {l rows : List ℕ} {n : ℕ} → SeedAsked l rows n → Inv l rows l rows n 0 0
start {l} {rows} {n} a =
    record {
      asked = a;
      within = omega arith;
      short = omega arith;
      stands = λ c. record {
        states = a.states;
        held = a.held;
        long = a.long;
        bits = λ k h. decided_bit (at rows k) (a.decided k h);
        open_first = λ s h e. holds_of_one (at rows s) e;
        shut_reached = λ s h e f. absurd (omega (arith, one_of_holds (at rows s) e));
        sound = λ s h e. arrived s (holds_of_one (at rows (n + s)) e);
        second = λ s h e. one_of_holds (at rows (n + s)) e;
        apart = λ s h b e. absurd (omega arith);
        queued = λ s h b e. absurd (omega arith);
        queue_states = λ i h. absurd (omega arith);
        queue_reached = λ i h. absurd (omega arith);
        few = omega (arith, sum_zero (at rows));
      };
      went = went_none n l rows 0;
    }

module _ {l₀ rows₀ l rows : List ℕ} {n tail s : ℕ} (v : Inv l₀ rows₀ l rows n tail s) (h : s < n) where
  pub in_second : n + s < length rows
  in_second = omega (arith, v.asked.held, v.went.bytes)

  held : n + n ≤ length rows
  held = omega (arith, v.asked.held, v.went.bytes)

  pub may_reach : ReachAsked (eqb (at rows (n + s)) 1) l rows n s tail
  may_reach =
      record {
        states = v.asked.states;
        here = h;
        held = held;
        long = omega (arith, v.asked.long, v.went.words);
        room = λ e. omega (arith, v.short);
      }

  turn_as : {l' rows' : List ℕ} {tail' : ℕ} (b : Bool) → eqb (at rows (n + s)) 1 ≡ b → tail' ≡ tail_reached b tail → l' ≡ words_reached b l n s tail
      → rows' ≡ rows_reached b rows n s → Inv l₀ rows₀ l' rows' n tail' (s + 1)
  unfolding tail_reached words_reached rows_reached
  turn_as true e f g i =
      rw (f, g, i)
      (record {
        asked = v.asked;
        within = omega arith;
        short = omega (arith, v.short);
        stands = λ c.
            let w = v.stands c in
            reach_stands w s h (omega (arith, v.short)) (w.sound s h (eqb-true (at rows (n + s)) 1 e)) (s + 1) (λ u m d. omega arith)
            (omega (arith, w.few, sum_before n rows held s h));
        went = went_on v.went (reach_went n rows held s h l tail (omega (arith, v.short)));
      })
  turn_as false e f g i =
      rw (f, g, i)
      (record {
        asked = v.asked;
        within = omega arith;
        short = omega (arith, v.short);
        stands = λ c.
            let w = v.stands c in
            record {
              states = w.states;
              held = w.held;
              long = w.long;
              bits = w.bits;
              open_first = w.open_first;
              shut_reached = w.shut_reached;
              sound = w.sound;
              second = w.second;
              apart = λ u m b d. either_state u s
                  (λ z. let i : at rows (n + u) ≡ 1 → ⊥ = λ o. eqb-false (at rows (n + s)) 1 e (rw z at o) in omega (arith, w.bits (n + u) (omega arith)))
                  (λ z. w.apart u (omega arith) b d);
              queued = λ u m b d. either_state u s (λ z. absurd (eqb-false (at rows (n + s)) 1 e (rw z at d))) (λ z. w.queued u (omega arith) b d);
              queue_states = w.queue_states;
              queue_reached = w.queue_reached;
              few = omega (arith, w.few, w.bits s (omega arith), sum_next (at rows) s);
            };
        went = v.went;
      })

  pub turn : {l' rows' : List ℕ} {tail' : ℕ} → tail' ≡ tail_reached (eqb (at rows (n + s)) 1) tail → l' ≡ words_reached (eqb (at rows (n + s)) 1) l n s tail
      → rows' ≡ rows_reached (eqb (at rows (n + s)) 1) rows n s → Inv l₀ rows₀ l' rows' n tail' (s + 1)
  turn f g i = turn_as (eqb (at rows (n + s)) 1) refl f g i

module _ {l₀ rows₀ l rows : List ℕ} {n tail s : ℕ} (v : Inv l₀ rows₀ l rows n tail s) where
  pub finish : n ≤ s → SeedLeaves n l₀ rows₀ l rows tail
  finish h =
      let e : s ≡ n = omega (arith, v.within) in
      record { seeded = λ c. record { stands = rw e at (v.stands c); went = v.went } }

  pub finish_words : length l ≡ length l₀
  finish_words = v.went.words

  pub finish_bytes : length rows ≡ length rows₀
  finish_bytes = v.went.bytes

pub ruleset seed_laws = (start, in_second, may_reach, turn, finish, finish_words, finish_bytes)
