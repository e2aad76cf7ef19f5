-- The report of a `P` over an until between two times: the ends that the earlier phase leaves, from those of the later one, are those of the verdicts
-- in its two rows, and the row is judged by them. Assumes nothing.
use mathlib.Core.Path.{◌≡◌, refl, ap, sym, ◌∙◌}
use mathlib.Core.Bool.{Bool, true, false, cond, not}
use mathlib.Core.List.{List}
use Prim.Native.Nat.{ℕ, ◌+◌, ◌*◌, ◌-◌, ◌/◌, ◌≤◌, ◌<◌}
use native.Mathlib.Omega.{arith}
use Rattle.csl.specs.Limits.{billion}
use Rattle.csl.specs.Formula.{Comparison}
use Rattle.csl.specs.Chain.{Chain, top_rate}
use Rattle.csl.specs.Phase.{moved}
use Rattle.csl.specs.Verdicts.{Verdict, least, most}
use Rattle.csl.specs.Lent.{verdict_byte}
use Rattle.numbers.specs.Filled.{at, Filled, Table, filled_as}
use Rattle.numbers.specs.Part.{rest, rest_at, rest_length}
use Rattle.bounds.specs.Unit.{unit}
use Rattle.bounds.specs.StepValues.{settled, StartedRounds, earlier_gap}
use Rattle.bounds.specs.Found.{lower_found, upper_found, lower_between, upper_between}
use Rattle.bounds.proofs.Found.{earlier_lower_found, gap_same, earlier_upper_found}
use Rattle.bounds.proofs.Found.{pair_lower, pair_upper, pair_range, pair_verdict, pair_depth}
use Rattle.verdicts.specs.Byte.{verdict_at}
use Rattle.vectors.specs.Places.{EndsStored}
use Rattle.vectors.specs.Prepared.{ends_prepared}
use Rattle.verdict_rows.specs.Byte.{judged_byte}
use Rattle.verdict_rows.specs.Row.{EndsIn}
use Rattle.phase.specs.Load.{light_loaded}
use Rattle.until.specs.Reading.{verdicts, read_as}
use Rattle.until.specs.Asked.{Until, EarlierAsked, Earlier, started_value}
use Rattle.until.specs.Shown.{depth_shown, started_rounds, earlier_depth_shown, earlier_lower_shown, earlier_upper_shown}
use Rattle.decide.specs.Chance.{TwoPhasesAsked, TwoPhasesLeaves}
use Rattle.decide.proofs.RowsLaw.{ends_over, ends_as, cleared_row}
use Rattle.decide.proofs.ReportLaw.{ends_in}
use Rattle.decide.proofs.UntilEndsLaw.{Ready, shallow, lower_is, upper_is, ends_range}

-- values where an operand holds are those where it holds as another does
started_as : (c : Chain) (a b : ℕ → Bool) (x : ℕ → ℕ) (val : ℕ → ℕ → ℕ) → ((s : ℕ) → s < c.states → a s ≡ b s) → StartedRounds c a x val
    → StartedRounds c b x val
started_as c a b x val e r =
    record {
      start = λ s l. r.start s l ∙ ap (λ (z : Bool). unit * cond z (x s) 0) (e s l);
      next = λ k s l. r.next k s l ∙ ap (λ (z : Bool). settled false (not z) (moved c (val k) s / top_rate c)) (e s l);
    }

module _ {mv l l₁ marks m₁ : List ℕ} {n q t u p e : ℕ} (a : TwoPhasesAsked mv l marks n q t u p)
    (x : Until mv marks (rest marks n) n q (u - t) l l₁ e) (z : Filled (λ s. 0) n n marks m₁) where
  later : Ready a.c mv l n q (u - t)
  later = record { shows = a.shows; prepared = a.prepared; load = a.later_load }

  earlier : Ready a.c mv l₁ n q t
  earlier = record { shows = a.shows; prepared = ends_prepared a.prepared x.ends; load = a.earlier_load }

  later_range : EndsIn n l₁
  later_range = ends_range later x (λ s. verdict_at (at marks s)) (λ s. verdict_at (at marks (n + s))) (λ s b. refl) (λ s b. refl)

  -- with the second row cleared the earlier phase may be worked out
  pub may_earlier : EarlierAsked mv l₁ m₁ (rest m₁ n) n q t
  may_earlier =
      record {
        prepared = earlier.prepared;
        load = light_loaded n (q * t) a.earlier_load;
        in_first = omega (arith, a.held, z.same);
        in_none = omega (arith, a.held, z.same, rest_length m₁ n);
        no_goal = λ s b. rest_at m₁ n s ∙ z.filled s b;
        lowers = λ s b. later_range.range s (omega arith);
        uppers = λ s b. later_range.range (n + s) (omega arith);
      }

  -- two rows that hold the verdicts v and w
  module _ {l₂ : List ℕ} {d : ℕ} (y : Earlier mv m₁ n q t l₁ l₂ d) (v w : ℕ → Verdict) (h : (s : ℕ) → s < n → verdict_at (at marks s) ≡ v s)
      (k : (s : ℕ) → s < n → verdict_at (at marks (n + s)) ≡ w s) where
    here : (s : ℕ) → s < a.c.states → s < n
    here s b = omega (arith, a.shows.states)

    there : (s : ℕ) → s < n → s < a.c.states
    there s b = omega (arith, a.shows.states)

    first_is : (s : ℕ) → s < n → verdicts m₁ s ≡ v s
    first_is s b = ap verdict_at (z.before s b) ∙ h s b

    -- the values of the two runs
    low_run : StartedRounds a.c (least v) (at l₁) (started_value mv q (λ i. read_as false (verdicts m₁ i)) (at l₁))
    low_run =
        started_as a.c (λ i. read_as false (verdicts m₁ i)) (least v) (at l₁) _ (λ i m. ap (read_as false) (first_is i (here i m)))
        (started_rounds a.shows a.prepared.rates.top (λ i. read_as false (verdicts m₁ i)) (at l₁))

    high_run : StartedRounds a.c (most v) (λ i. at l₁ (n + i)) (started_value mv q (λ i. read_as true (verdicts m₁ i)) (λ i. at l₁ (n + i)))
    high_run =
        started_as a.c (λ i. read_as true (verdicts m₁ i)) (most v) (λ i. at l₁ (n + i)) _ (λ i m. ap (read_as true) (first_is i (here i m)))
        (started_rounds a.shows a.prepared.rates.top (λ i. read_as true (verdicts m₁ i)) (λ i. at l₁ (n + i)))

    gap_is : earlier_gap n (verdicts m₁) (at l₁) (λ i. at l₁ (n + i)) ≡ earlier_gap a.c.states v (at l₁) (λ i. at l₁ (n + i))
    gap_is =
        gap_same n (verdicts m₁) v (at l₁) (at l₁) (λ i. at l₁ (n + i)) (λ i. at l₁ (n + i)) first_is (λ i m. refl) (λ i m. refl)
        ∙ ap (λ (k : ℕ). earlier_gap k v (at l₁) (λ i. at l₁ (n + i))) (sym a.shows.states)

    low_is : (s : ℕ) → s < n → at l₂ s ≡ lower_between a.c t u v w s
    low_is s b =
        earlier_lower_shown a.shows a.prepared.rates.top y s b
        ∙ rw (first_is s b)
        (earlier_lower_found a.c t v (at l₁) (lower_found a.c (u - t) v w) (λ i m. lower_is later x v w h k i (here i m))
        (started_value mv q (λ i. read_as false (verdicts m₁ i)) (at l₁)) s (there s b) (λ o. low_run))

    high_is : (s : ℕ) → s < n → at l₂ (n + s) ≡ upper_between a.c t u v w s
    high_is s b =
        earlier_upper_shown a.shows a.prepared.rates.top y s b
        ∙ rw (gap_is, first_is s b)
        (earlier_upper_found a.c t v (at l₁) (lower_found a.c (u - t) v w) (λ i. at l₁ (n + i)) (upper_found a.c (u - t) v w)
        (λ i m. lower_is later x v w h k i (here i m)) (λ i m. upper_is later x v w h k i (here i m))
        (started_value mv q (λ i. read_as false (verdicts m₁ i)) (at l₁))
        (started_value mv q (λ i. read_as true (verdicts m₁ i)) (λ i. at l₁ (n + i))) s (there s b) (λ o. low_run) (λ o. high_run))

    pub pair_ends : EndsStored (lower_between a.c t u v w) (upper_between a.c t u v w) n l l₂
    pair_ends = ends_over x.ends (record { same = y.ends.same; lowers = low_is; uppers = high_is; after = y.ends.after })

    pub pair_in_range : EndsIn n l₂
    pair_in_range =
        let r : (s : ℕ) → s < n → (lower_between a.c t u v w s ≤ billion) × (upper_between a.c t u v w s ≤ billion)
        = λ s b. pair_range a.c u v w s t a.some (there s b) (shallow earlier) (shallow later) in
        ends_in pair_ends (omega (arith, a.prepared.rates.long)) (λ s b. (r s b).0) (λ s b. (r s b).1)

  -- so the row may be judged
  pub may_judge_pair : {l₂ : List ℕ} {d : ℕ} → Earlier mv m₁ n q t l₁ l₂ d → EndsIn n l₂
  may_judge_pair y = pair_in_range y (λ s. verdict_at (at marks s)) (λ s. verdict_at (at marks (n + s))) (λ s b. refl) (λ s b. refl)

-- and is, for whatever verdicts the rows hold
pub two_phases_left : {mv l l₁ l₂ marks m₁ m₂ : List ℕ} {n q t u p d e : ℕ} {r : Comparison} → Until mv marks (rest marks n) n q (u - t) l l₁ e
    → Filled (λ s. 0) n n marks m₁ → Earlier mv m₁ n q t l₁ l₂ d → Table (λ s. judged_byte r p (at l₂ s) (at l₂ (n + s))) m₁ m₂ n
    → (a : TwoPhasesAsked mv l marks n q t u p) → TwoPhasesLeaves a r l₂ m₂ (d + e)
unfolding judged_byte
two_phases_left {t = t} {u = u} {p = p} {r = r} x z y j a v w h k =
    let ends = pair_ends a x z y v w h k in
    record {
      rows = cleared_row z
          (filled_as _
          (λ s b. rw (ends.lowers s b, ends.uppers s b) (ap verdict_byte (pair_verdict a.c u v w s t a.some r p))) j);
      report = record {
        ends = ends_as _ _ (λ s b. pair_lower a.c u v w s t a.some) (λ s b. pair_upper a.c u v w s t a.some) ends;
        range = pair_in_range a x z y v w h k;
        deep = rw (earlier_depth_shown a.shows a.prepared.rates.top y, depth_shown a.shows a.prepared.rates.top x)
            (pair_depth a.c u v w 0 t a.some);
      };
    }
