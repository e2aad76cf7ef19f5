-- Step after step. Assumes nothing.
use mathlib.Core.Path.{◌≡◌, refl, ap, sym, ◌∙◌}
use mathlib.Core.List.{List}
use Prim.Native.Nat.{ℕ, ◌+◌, ◌*◌, ◌≤◌, ◌<◌}
use native.Mathlib.Omega.{arith}
use native.Mathlib.Numerals.{add-one}
use lib.Dec.{ltb}
use lib.ListN.{length}
use Rattle.csl.specs.Chain.{sum_to}
use Rattle.numbers.specs.Sum.{sum_next, sum_most}
use Rattle.bounds.specs.Unit.{one, part, most_part, part_most}
use Rattle.vectors.specs.Places.{weights_from, value_at, sum_at, stay_at, held_at, weight_at}
use Rattle.vectors.specs.Prepared.{rates_kept, rates_slow}
use Rattle.phase.specs.Value.{run_of}
use Rattle.phase.specs.Bound.{run_most, next_cong}
use Rattle.phase.specs.Steps.{StandsAt, StepAsked, next_of, Stepped}
use Rattle.until.specs.Run.{RunAsked, run_at, sum_of, Ran}

pub start : {mv l : List ℕ} {n q last : ℕ} → RunAsked mv l n q last → Ran mv n q 0 l l
unfolding run_of sum_to
start p =
    record {
      same = refl;
      values = λ s h. refl;
      next = p.next;
      sums = λ s h. p.sums s h ∙ omega arith;
      number = p.number;
      before = λ i h. refl;
      after = λ i h j. refl;
    }

module _ {mv e l : List ℕ} {n q last k : ℕ} (asked : RunAsked mv e n q last) (v : Ran mv n q k e l) (h : k < last) where
  stay_is : (s : ℕ) → s < n → stay_at l n s ≡ stay_at e n s
  stay_is s b = v.after (5 * n + s) (omega arith) (omega arith)

  weight_is : (i : ℕ) → i ≤ last → weight_at l n i ≡ weight_at e n i
  weight_is i b = v.after (weights_from n + i) (omega arith) (omega (arith, asked.room))

  -- the values are at most one
  most : (i s : ℕ) → s < n → run_at mv e n q i s ≤ one
  most =
      run_most mv (length mv) n q asked.moving.rates.lines.targets (value_at e n) (held_at e n q) asked.moving.values
      (rates_slow asked.moving.rates)

  pub may_step : StepAsked mv l n q
  may_step =
      record {
        moving = record {
          rates = rates_kept asked.moving.rates v.same (λ i b c. v.after i (omega arith) (omega arith));
          some = asked.moving.some;
          values = λ s b. rw (v.values s b) (most k s b);
          stays = λ s b e. stay_is s b ∙ asked.moving.stays s b (rw (stay_is s b) at e);
        };
        limit = omega (arith, v.number, asked.limit);
        room = omega (arith, v.number, asked.room);
        weight = rw (v.number, weight_is (k + 1) (omega arith)) (asked.weights (k + 1) (omega arith));
        sums = λ s b. rw (v.number, v.sums s b)
            (sum_most (λ i. part (weight_at e n i) (run_at mv e n q i s)) most_part (k + 1)
            (λ i c. part_most (weight_at e n i) (run_at mv e n q i s) (asked.weights i (omega arith)) (most i s b)));
      }

  module _ {l' : List ℕ} (u : Stepped mv n q l l') where
    value_is : (s : ℕ) → s < n → next_of mv l n q s ≡ run_at mv e n q (k + 1) s
    unfolding run_of
    value_is s b =
        rw add-one
        (next_cong mv (length mv) n q asked.moving.rates.lines.targets (held_at l n q) (held_at e n q) (value_at l n)
        (run_at mv e n q k) (λ g c. ap (ltb q) (stay_is g c)) v.values s b)

    sum_is : (s : ℕ) → s < n → sum_at l n s + part (weight_at l n (k + 1)) (next_of mv l n q s) ≡ sum_of mv e n q s (k + 1 + 1)
    sum_is s b =
        rw (v.sums s b, weight_is (k + 1) (omega arith), value_is s b)
        (sym (sum_next (λ i. part (weight_at e n i) (run_at mv e n q i s)) (k + 1)))

    pub turn : Ran mv n q (k + 1) e l'
    turn =
        let t : StandsAt n (k + 1) (next_of mv l n q) (λ s. sum_at l n s + part (weight_at l n (k + 1)) (next_of mv l n q s)) l l' = rw v.number at u in
        record {
          same = t.same ∙ v.same;
          values = λ s b. t.values s b ∙ value_is s b;
          next = λ s b. t.next s b ∙ value_is s b;
          sums = λ s b. t.sums s b ∙ sum_is s b;
          number = t.number;
          before = λ i b. t.before i b ∙ v.before i b;
          after = λ i b j. t.after i b j ∙ v.after i b j;
        }

pub finish : (mv : List ℕ) (n q : ℕ) {e l : List ℕ} {k last : ℕ} → Ran mv n q k e l → k ≤ last → last ≤ k → Ran mv n q last e l
finish mv n q {k = k} {last = last} v b h = let z : k ≡ last = omega arith in rw z at v

pub ruleset run_laws = (start, may_step, turn, finish)
