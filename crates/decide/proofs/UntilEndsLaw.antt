-- The ends that an until leaves are those of the verdicts in its two rows. Assumes nothing.
use mathlib.Core.Path.{◌≡◌, refl, ap, sym, ◌∙◌}
use mathlib.Core.List.{List}
use Prim.Native.Nat.{ℕ, ◌+◌, ◌*◌, ◌≤◌, ◌<◌}
use native.Mathlib.Omega.{arith}
use lib.ListN.{length}
use Rattle.csl.specs.Limits.{most_rate_hundredths}
use Rattle.csl.specs.Chain.{Chain, load, depth}
use Rattle.csl.specs.Until.{until_phase}
use Rattle.csl.specs.Verdicts.{Verdict, least, most}
use Rattle.numbers.specs.Filled.{at}
use Rattle.numbers.specs.Part.{rest, rest_at}
use Rattle.bounds.specs.Width.{most_depth}
use Rattle.bounds.specs.StepValues.{Rounds}
use Rattle.bounds.specs.Found.{lower_found, upper_found}
use Rattle.bounds.proofs.Found.{lower_found_lem, upper_found_lem, ends_found}
use Rattle.verdicts.specs.Byte.{verdict_at}
use Rattle.rate_matrix.specs.Shown.{Shows, top_shown}
use Rattle.vectors.specs.Places.{EndsStored}
use Rattle.vectors.specs.Prepared.{Prepared}
use Rattle.verdict_rows.specs.Row.{EndsIn}
use Rattle.phase.specs.Value.{value_of}
use Rattle.until.specs.Reading.{verdicts, low_phase, high_phase}
use Rattle.until.specs.Asked.{Until}
use Rattle.until.specs.Shown.{low_rounds, high_rounds, lower_shown, upper_shown}
use Rattle.decide.proofs.ReportLaw.{ends_in}

-- rounded values for verdicts are those for equal verdicts
module _ (c : Chain) (x y v w : ℕ → Verdict) (h : (s : ℕ) → s < c.states → x s ≡ v s) (k : (s : ℕ) → s < c.states → y s ≡ w s) where
  rounds_least : (val : ℕ → ℕ → ℕ) → Rounds c (until_phase (least x) (least y)) val → Rounds c (until_phase (least v) (least w)) val
  rounds_least val r =
      record {
        start = λ s l. r.start s l ∙ rw (k s l) refl;
        next = λ i s l. r.next i s l ∙ rw (h s l, k s l) refl;
      }

  rounds_most : (val : ℕ → ℕ → ℕ) → Rounds c (until_phase (most x) (most y)) val → Rounds c (until_phase (most v) (most w)) val
  rounds_most val r =
      record {
        start = λ s l. r.start s l ∙ rw (k s l) refl;
        next = λ i s l. r.next i s l ∙ rw (h s l, k s l) refl;
      }

-- words prepared for a chain, and a load that is let pass
pub record Ready (c : Chain) (mv l : List ℕ) (n q t : ℕ) : Type 0 where
  pub shows : Shows c mv (length mv) n
  pub prepared : Prepared mv l n q
  pub load : q * t ≤ most_rate_hundredths

-- the depth is one that the ends are known for
pub shallow : {c : Chain} {mv l : List ℕ} {n q t : ℕ} → Ready c mv l n q t → depth c t ≤ most_depth
unfolding depth load
shallow {t = t} a =
    omega (arith, a.load, ap (λ (z : ℕ). z * t) (a.prepared.rates.top ∙ sym (top_shown a.shows)))

module _ {c : Chain} {mv l l' marks : List ℕ} {n q t d : ℕ} (a : Ready c mv l n q t) (u : Until mv marks (rest marks n) n q t l l' d) where
  -- two rows that hold the verdicts v and w
  module _ (v w : ℕ → Verdict) (h : (s : ℕ) → s < n → verdict_at (at marks s) ≡ v s) (k : (s : ℕ) → s < n → verdict_at (at marks (n + s)) ≡ w s) where
    pub here : (s : ℕ) → s < c.states → s < n
    here s b = omega (arith, a.shows.states)

    pub there : (s : ℕ) → s < n → s < c.states
    there s b = omega (arith, a.shows.states)

    behind : (s : ℕ) → s < n → verdicts (rest marks n) s ≡ w s
    behind s b = ap verdict_at (rest_at marks n s) ∙ k s b

    pub lower_is : (s : ℕ) → s < n → at l' s ≡ lower_found c t v w s
    lower_is s b =
        lower_shown a.shows a.prepared.rates.top u s b
        ∙ rw (h s b, behind s b)
        (lower_found_lem c t v w (value_of mv (length mv) q (low_phase marks (rest marks n))) s (there s b)
        (λ z. rounds_least c (verdicts marks) (verdicts (rest marks n)) v w (λ g m. h g (here g m)) (λ g m. behind g (here g m)) _
        (low_rounds a.shows a.prepared.rates.top u)))

    pub upper_is : (s : ℕ) → s < n → at l' (n + s) ≡ upper_found c t v w s
    upper_is s b =
        upper_shown a.shows a.prepared.rates.top u s b
        ∙ rw (h s b, behind s b)
        (upper_found_lem c t v w (value_of mv (length mv) q (high_phase marks (rest marks n))) s (there s b)
        (λ z. rounds_most c (verdicts marks) (verdicts (rest marks n)) v w (λ g m. h g (here g m)) (λ g m. behind g (here g m)) _
        (high_rounds a.shows a.prepared.rates.top u)))

    pub ends_are : EndsStored (lower_found c t v w) (upper_found c t v w) n l l'
    ends_are = record { same = u.ends.same; lowers = lower_is; uppers = upper_is; after = u.ends.after }

    pub ends_range : EndsIn n l'
    ends_range =
        ends_in ends_are (omega (arith, a.prepared.rates.long)) (λ s b. (ends_found c t v w (shallow a) s (there s b)).lower_range)
        (λ s b. (ends_found c t v w (shallow a) s (there s b)).upper_range)
