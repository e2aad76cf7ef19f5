-- Both readings and the ends that they give, one after the other. Assumes nothing.
use mathlib.Core.Path.{◌≡◌, refl, ap, ◌∙◌}
use mathlib.Core.Bool.{Bool, true, false, cond}
use mathlib.Core.List.{List}
use Prim.Native.Nat.{ℕ, ◌+◌, ◌*◌, ◌-◌, ◌/◌, ◌≤◌, ◌<◌}
use native.Mathlib.Omega.{arith}
use native.Mathlib.Nat.{div-le_of_le-mul}
use lib.Dec.{leb}
use lib.ListN.{length}
use borrow.Author.Tests.{leb-true}
use Rattle.csl.specs.Limits.{billion}
use Rattle.csl.specs.Chain.{sum_to}
use Rattle.numbers.specs.Filled.{Filled, table_at}
use Rattle.numbers.specs.Sum.{sum_cong}
use Rattle.bounds.specs.Unit.{unit, one, scale, grain, part}
use Rattle.bounds.specs.StepValues.{most_gap, pointed}
use Rattle.vectors.specs.Places.{at, weights_from, total_at, number_at, sum_at, weight_at, total_in}
use Rattle.vectors.specs.Prepared.{Rates, rates_kept, rates_slow}
use Rattle.phase.specs.Value.{held_of}
use Rattle.phase.specs.Bound.{run_most, run_cong}
use Rattle.phase.specs.Load.{LightAsked}
use Rattle.phase.specs.Ends.{whole_of, LowerAsked, lower_at, upper_from, UpperAsked, upper_at}
use Rattle.until.specs.Reading.{verdicts, read_phase, end_of, value_from}
use Rattle.until.specs.Asked.{EndsAsked, Pointed, start_gap, error_of, sum_from, ReadAsked, Read, ReadUnless, BothAsked, upper_by, Both}

-- what a sum of values of at most 1 gives is at most 1,000,000,000
end_most : (x total : ℕ) → x * grain ≤ total * one → x * scale / total ≤ billion
end_most x total h = div-le_of_le-mul total (omega arith)

-- the error is at most 1
error_most : (gap : ℕ) → error_of gap ≤ one
error_most gap = by (leb gap most_gap) refl
  where
    by : (b : Bool) → leb gap most_gap ≡ b → cond b (unit * gap) 0 ≤ one
    by true e = omega (arith, leb-true gap most_gap e)
    by false e = omega arith

-- one of two ends, by which sum and which error it has
upper_split : (b : Bool) (x y total e : ℕ) (whole : ℕ → ℕ)
    → upper_from (cond b x y) total (whole (cond b e 0)) ≡ cond b (upper_from x total (whole e)) (upper_from y total (whole 0))
upper_split true x y total e whole = refl
upper_split false x y total e whole = refl

-- words that have the rates, the weights and their total as others have
pub record Like (n : ℕ) (l x : List ℕ) : Type 0 where
  pub same : length x ≡ length l
  pub after : (k : ℕ) → 6 * n ≤ k → (k ≡ number_at n → ⊥) → at x k ≡ at l k

like_on : {n : ℕ} {l x y : List ℕ} → Like n l x → length y ≡ length x → ((k : ℕ) → 6 * n ≤ k → (k ≡ number_at n → ⊥) → at y k ≡ at x k) → Like n l y
like_on c e h = record { same = e ∙ c.same; after = λ k b d. h k b d ∙ c.after k b d }

module _ {mv l first second : List ℕ} {n q last : ℕ} (p : BothAsked mv l first second n q last) where
  module _ {x : List ℕ} (c : Like n l x) where
    rates_like : Rates mv x n q
    rates_like = rates_kept p.read.rates c.same (λ k a b. c.after k a (omega arith))

    weight_like : (k : ℕ) → k ≤ last → weight_at x n k ≡ weight_at l n k
    weight_like k b = c.after (weights_from n + k) (omega arith) (omega (arith, p.read.room))

    total_like : total_in x n ≡ total_in l n
    total_like = c.after (total_at n) (omega arith) (omega arith)

    light_like : LightAsked x n last
    light_like =
        record {
          states = p.read.ends.states;
          long = rates_like.long;
          limit = p.read.limit;
          room = p.read.room;
          weights = λ k b. rw (weight_like k b) (p.read.weights k b);
        }

    -- sums over weights that are the same
    sum_like : (v u : ℕ → ℕ) → ((k : ℕ) → v k ≡ u k)
        → sum_to (λ k. part (weight_at x n k) (v k)) (last + 1) ≡ sum_to (λ k. part (weight_at l n k) (u k)) (last + 1)
    sum_like v u e =
        sum_cong (λ k. part (weight_at x n k) (v k)) (λ k. part (weight_at l n k) (u k)) (last + 1) (λ k b. rw (weight_like k (omega arith), e k) refl)

    -- so too where the upper ends are the same
    high_like : ((g : ℕ) → g < n → at x (n + g) ≡ at l (n + g)) → (s : ℕ) → s < n
        → sum_from mv first second x n q last true s ≡ sum_from mv first second l n q last true s
    high_like e s h =
        sum_like (λ k. value_from mv first second x n q true k s) (λ k. value_from mv first second l n q true k s)
        (λ k. run_cong mv (length mv) n q p.read.rates.lines.targets _ _ _ _ (λ g d. ap (λ (y : ℕ). unit * y) (e g d)) (λ g d. refl) k s h)

  -- what a reading sums up to
  small : (b : Bool) (s : ℕ) → s < n → sum_from mv first second l n q last b s * grain ≤ total_in l n * one
  small b s h =
      p.most (λ k. value_from mv first second l n q b k s)
      (λ k. run_most mv (length mv) n q p.read.rates.lines.targets (λ g. unit * end_of b l n g) (held_of (read_phase b first second))
      (λ g e. omega (arith, p.read.ends.small b g e)) (rates_slow p.read.rates) k s h)

  module _ {b : List ℕ} (i : Read mv first second n q last false l b) where
    like_read : Like n l b
    like_read = record { same = i.same; after = i.after }

    pub may_lower : LowerAsked b n
    may_lower =
        record {
          states = p.read.ends.states;
          long = (rates_like like_read).long;
          some = rw (total_like like_read) p.some;
          divisor = rw (total_like like_read) p.divisor;
          sums = λ s h. rw (i.sums s h, total_like like_read) (small false s h);
        }

    module _ {x : List ℕ} (o : Filled (lower_at b n) 0 n b x) where
      like_lower : Like n l x
      like_lower = like_on like_read o.same (λ k h d. o.after k (omega arith))

      lower_is : (s : ℕ) → s < n → at x s ≡ sum_from mv first second l n q last false s * scale / total_in l n
      lower_is s h = table_at o s h ∙ rw (i.sums s h, total_like like_read) refl

      upper_was : (s : ℕ) → s < n → at x (n + s) ≡ at l (n + s)
      upper_was s h = o.after (n + s) (omega arith) ∙ i.before (n + s) (omega arith)

      lowered_small : (c : Bool) (s : ℕ) → s < n → end_of c x n s ≤ billion
      lowered_small true s h = rw (upper_was s h) (p.read.ends.small true s h)
      lowered_small false s h = rw (lower_is s h) (end_most _ (total_in l n) (small false s h))

      ends_lowered : EndsAsked x first second n
      ends_lowered =
          record {
            states = p.read.ends.states;
            room = omega (arith, like_lower.same, p.read.ends.room);
            in_first = p.read.ends.in_first;
            in_second = p.read.ends.in_second;
            small = lowered_small;
          }

      pub may_high : ReadAsked mv x first second n q last
      may_high =
          record {
            rates = rates_like like_lower;
            some = p.read.some;
            ends = ends_lowered;
            limit = p.read.limit;
            room = p.read.room;
            weights = (light_like like_lower).weights;
          }

      module _ {gap e : ℕ} {y : List ℕ} (d : gap ≡ start_gap l first second n) (j : ReadUnless mv first second n q last gap x y) (c : e ≡ error_of gap) where
        like_high : Like n l y
        like_high = like_on like_lower j.same j.after

        -- where the starts are near, the sums of the lower one stand there
        sum_is : (s : ℕ) → s < n
            → sum_at y n s ≡ cond (leb gap most_gap) (sum_from mv first second l n q last false s) (sum_from mv first second l n q last true s)
        sum_is s h = j.sums s h ∙ rw (o.after (4 * n + s) (omega arith) ∙ i.sums s h, high_like like_lower upper_was s h) refl

        whole_like : whole_of y n last e ≡ whole_of l n last e
        whole_like = ap (λ (t : ℕ). t - (last + 1)) (sum_like like_high (λ k. one - (e + k)) (λ k. one - (e + k)) (λ k. refl))

        whole_small : whole_of l n last e * grain ≤ total_in l n * one
        whole_small = omega (arith, p.most (λ k. one - (e + k)) (λ k. omega arith))

        pub may_upper : UpperAsked y n last e
        may_upper =
            record {
              gather = record { light = light_like like_high; error = rw c (error_most gap) };
              over = record {
                some = rw (total_like like_high) p.some;
                divisor = rw (total_like like_high) p.divisor;
                most = rw (total_like like_high, whole_like) whole_small;
              };
            }

        module _ {z : List ℕ} (u : Filled (upper_at y n last e) n n y z) where
          like_upper : Like n l z
          like_upper = like_on like_high u.same (λ k h d. u.after k (omega arith))

          lower_was : (s : ℕ) → s < n → at z s ≡ at x s
          lower_was s h = u.before s (omega arith) ∙ j.before s (omega arith)

          upper_is : (s : ℕ) → s < n → at z (n + s) ≡ upper_from (sum_at y n s) (total_in l n) (whole_of l n last e)
          upper_is s h = u.filled s h ∙ rw (total_like like_high, whole_like) refl

          upper_meant : (s : ℕ) → s < n → at z (n + s) ≡ upper_by mv first second l n q last gap s
          upper_meant s h =
              upper_is s h
              ∙ rw (sum_is s h, c)
              (upper_split (leb gap most_gap) (sum_from mv first second l n q last false s) (sum_from mv first second l n q last true s) (total_in l n)
              (unit * gap) (whole_of l n last))

          pointed_small : (c : Bool) (s : ℕ) → s < n → end_of c z n s ≤ billion
          pointed_small true s h = rw (upper_is s h) (omega arith)
          pointed_small false s h = rw (lower_was s h) (lowered_small false s h)

          pub may_point : EndsAsked z first second n
          may_point =
              record {
                states = p.read.ends.states;
                room = omega (arith, like_upper.same, p.read.ends.room);
                in_first = p.read.ends.in_first;
                in_second = p.read.ends.in_second;
                small = pointed_small;
              }

          pub is_both : {w : List ℕ} → Pointed first second n z w → Both mv first second n q last l w
          is_both f =
              record {
                same = f.same ∙ like_upper.same;
                lowers = λ s h. f.lowers s h ∙ ap (pointed (verdicts first s) (verdicts second s)) (lower_was s h ∙ lower_is s h);
                uppers = λ s h. f.uppers s h ∙ ap (pointed (verdicts first s) (verdicts second s)) (rw d at (upper_meant s h));
                after = λ k h b. f.after k (omega arith) ∙ like_upper.after k h b;
              }
