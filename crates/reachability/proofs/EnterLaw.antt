-- The words of one row, one after the other. Assumes nothing.
use mathlib.Core.Path.{◌≡◌, refl, ap, sym, ◌∙◌}
use mathlib.Core.Bool.{Bool, true}
use mathlib.Core.List.{List}
use Prim.Native.Nat.{ℕ, ◌+◌, ◌≤◌, ◌<◌}
use native.Mathlib.Omega.{arith}
use lib.ListN.{length, set}
use lib.Seq.{set-get_or}
use borrow.Author.Count.{below_more}
use Rattle.csl.specs.Chain.{Chain}
use Rattle.numbers.specs.Filled.{at}
use Rattle.rate_matrix.specs.Packed.{word_to}
use Rattle.vectors.specs.Places.{values_from}
use Rattle.reachability.specs.Asked.{TakeAsked, rows_taken, Enters, EnterAsked, Entered, EnterLeaves}
use Rattle.reachability.proofs.StandsLaw.{either_state, none_left, marks, first_here, sum_moved, went_none, went_on}
use Rattle.reachability.proofs.StandsLaw.{reach_went, reach_stands, free_went, free_stands}

-- the words from begin to k are passed
pub record Inv (index l₀ rows₀ : List ℕ) (n begin end tail₀ most : ℕ) (l rows : List ℕ) (tail k : ℕ) : Type 0 where
  pub asked : EnterAsked index l₀ rows₀ n begin end tail₀ most
  pub first : begin ≤ k
  pub within : k ≤ end
  pub done : (c : Chain) (x y : ℕ → Bool) → Enters c x y index l₀ rows₀ n begin end tail₀ most
      → Entered c x y index n begin k most l₀ rows₀ tail₀ l rows tail

pub start : {index l rows : List ℕ} {n begin end tail most : ℕ} → EnterAsked index l rows n begin end tail most
    → Inv index l rows n begin end tail most l rows tail begin
start {index} {l} {rows} {n} {begin} {end} {tail} {most} a =
    record {
      asked = a;
      first = omega arith;
      within = a.enters.part;
      done = λ c x y e. record { stands = e.stands; total = e.total; went = went_none n l rows tail; reached = λ k b h. absurd (omega arith) };
    }

module _ {index l₀ rows₀ : List ℕ} {n begin end tail₀ most : ℕ} {l rows : List ℕ} {tail k : ℕ}
    (v : Inv index l₀ rows₀ n begin end tail₀ most l rows tail k) where
  now : Entered v.asked.c v.asked.x v.asked.y index n begin k most l₀ rows₀ tail₀ l rows tail
  now = v.done v.asked.c v.asked.x v.asked.y v.asked.enters

  module _ (h : k < end) where
    pub in_index : k < length index
    in_index = omega (arith, v.asked.enters.within)

    module _ (f : tail ≡ most → ⊥) (s : ℕ) (q : s ≡ word_to (at index k)) where
      here : s < n
      here = omega (arith, v.asked.enters.sources k in_index)

      room : tail < n
      room = omega (arith, now.stands.few, now.total)

      apart : at rows s ≡ 1 → at rows (n + s) ≡ 0
      apart e = now.stands.apart s here here e

      shut : (at rows s ≡ 1 → ⊥) → at rows s ≡ 0
      shut z = omega (arith, now.stands.bits s (omega (arith, here)))

      pub may_take : TakeAsked l rows n s tail
      may_take =
          record {
            states = now.stands.states;
            here = here;
            held = now.stands.held;
            long = now.stands.long;
            room = room;
            apart = either_state (at rows s) 1 (λ e. omega (arith, apart e))
                (λ z. omega (arith, shut z, now.stands.bits (n + s) (omega (arith, here))));
          }

      -- a state that was to be reached
      module _ (one : at rows s ≡ 1) where
        rows_on : rows_taken rows n s ≡ marks rows n s
        unfolding rows_taken
        rows_on = let e : at rows s + at rows (n + s) ≡ 1 = omega (arith, apart one) in rw e refl

        turn_on : Inv index l₀ rows₀ n begin end tail₀ most (set l (values_from n + tail) s) (marks rows n s) (tail + 1) (k + 1)
        turn_on =
            record {
              asked = v.asked;
              first = omega (arith, v.first);
              within = omega arith;
              done = λ c x y a.
                  let d = v.done c x y a in
                  let o : x s ≡ true = d.stands.open_first s here one in
                  let w = reach_went n rows d.stands.held s here l tail room in
                  let m = sum_moved n rows d.stands.held s here in
                  record {
                    stands = reach_stands d.stands s here room (rw q (a.leads k v.first h (rw q at o))) n (λ u m z. m)
                        (omega (arith, d.stands.few, m));
                    total = omega (arith, d.total, m);
                    went = went_on d.went w;
                    reached = λ j b m.
                        below_more (λ j. begin ≤ j → at (marks rows n s) (word_to (at index j)) ≡ 0) k
                        (λ j m b. w.shut (word_to (at index j)) (a.sources j (omega (arith, in_index))) (d.reached j b m))
                        (λ b. ap (at (marks rows n s)) (sym q) ∙ first_here n rows d.stands.held s here) j m b;
                  };
            }

      -- one that was not
      module _ (none : at rows s ≡ 0) where
        rows_left : rows_taken rows n s ≡ rows
        unfolding rows_taken
        rows_left =
            let e : at rows s + at rows (n + s) ≡ at rows (n + s) = omega arith in
            let z : set rows s 0 ≡ rows = ap (set rows s) (sym none) ∙ set-get_or rows s 0 in
            rw (e, z) (set-get_or rows (n + s) 0)

        turn_left : Inv index l₀ rows₀ n begin end tail₀ most (set l (values_from n + tail) s) rows tail (k + 1)
        turn_left =
            record {
              asked = v.asked;
              first = omega (arith, v.first);
              within = omega arith;
              done = λ c x y a.
                  let d = v.done c x y a in
                  record {
                    stands = free_stands n l tail room s d.stands;
                    total = d.total;
                    went = went_on d.went (free_went n l tail room s rows);
                    reached = λ j b m.
                        below_more (λ j. begin ≤ j → at rows (word_to (at index j)) ≡ 0) k (λ j m b. d.reached j b m)
                        (λ b. ap (at rows) (sym q) ∙ none) j m b;
                  };
            }

      pub turn : {l' rows' : List ℕ} {tail' : ℕ} → tail' ≡ tail + at rows s → l' ≡ set l (values_from n + tail) s → rows' ≡ rows_taken rows n s
          → Inv index l₀ rows₀ n begin end tail₀ most l' rows' tail' (k + 1)
      turn {l'} {rows'} {tail'} e g i =
          either_state (at rows s) 1 (λ one. let z : tail' ≡ tail + 1 = omega arith in rw (z, g, i, rows_on one) (turn_on one))
          (λ d. let none : at rows s ≡ 0 = shut d in let z : tail' ≡ tail = omega arith in rw (z, g, i, rows_left none) (turn_left none))

  pub finish : end ≤ k → EnterLeaves index n begin end most l₀ rows₀ tail₀ l rows tail
  finish h = let e : k ≡ end = omega (arith, v.within) in record { entered = λ c x y a. rw e at (v.done c x y a) }

  -- no state is left to be reached
  pub finish_early : k < end → tail ≡ most → EnterLeaves index n begin end most l₀ rows₀ tail₀ l rows tail
  finish_early h e =
      record {
        entered = λ c x y a.
            let d = v.done c x y a in
            record {
              stands = d.stands;
              total = d.total;
              went = d.went;
              reached = λ j b m. none_left rows n (omega (arith, d.total)) (word_to (at index j)) (a.sources j (omega (arith, a.within)));
            };
      }

  pub finish_words : length l ≡ length l₀
  finish_words = now.went.words

  pub finish_bytes : length rows ≡ length rows₀
  finish_bytes = now.went.bytes

pub ruleset enter_laws = (start, in_index, may_take, turn, finish, finish_early, finish_words, finish_bytes)
