-- What `until` and `earlier` promise, of the chain that the words show: the two ends that their rounded step values give; and that the words
-- are prepared again. Assumes nothing.
use Rattle.std.specs.Prelude.{◌≡◌, Bool, true, false, cond, not, List, ℕ, ◌+◌, ◌*◌, ◌<◌, length}
use Rattle.std.proofs.Math.Path.{refl}
use Rattle.std.proofs.Common.{ap, sym, ◌∙◌}
use Rattle.std.proofs.lemmas.Bool.{false≢true}
use Rattle.csl.specs.Limits.{rate_hundredths}
use Rattle.csl.specs.Chain.{Chain, top_rate, load, depth}
use Rattle.bounds.specs.Unit.{unit}
use Rattle.bounds.specs.StepValues.{Rounds, until_lower_of, until_upper_of, started_phase, StartedRounds, earlier_lower_of, earlier_upper_of, earlier_gap}
use Rattle.rate_matrix.specs.Words.{at, top_of}
use Rattle.rate_matrix.specs.Shown.{Shows, top_shown}
use Rattle.vectors.specs.Prepared.{Prepared, ends_prepared}
use Rattle.phase.specs.Value.{run_of, value_of}
use Rattle.phase.specs.Rounded.{StartsHeld, run_next}
use Rattle.phase.specs.Load.{load_depth}
use Rattle.until.specs.Reading.{verdicts, read_as, low_phase, high_phase, reading_rounds}
use Rattle.until.specs.Asked.{UntilAsked, Until, EarlierAsked, started_value, Earlier}

pub until_prepared : {mv first second l₀ l : List ℕ} {n q t d : ℕ} → UntilAsked mv l₀ first second n q t → Until mv first second n q t l₀ l d
    → Prepared mv l n q
until_prepared p u = ends_prepared p.prepared u.ends

pub earlier_prepared : {mv first none l₀ l : List ℕ} {n q t d : ℕ} → EarlierAsked mv l₀ first none n q t → Earlier mv first n q t l₀ l d
    → Prepared mv l n q
earlier_prepared p u = ends_prepared p.prepared u.ends

-- a phase that starts from billionths starts as it holds
started_held : (n : ℕ) (holds : ℕ → Bool) (x : ℕ → ℕ) → StartsHeld n (started_phase holds x) (λ s. unit * cond (holds s) (x s) 0)
started_held n holds x = record { ones = λ s l e. absurd (false≢true e); nils = λ s l e f. nil (holds s) (x s) f }
  where
    nil : (b : Bool) (y : ℕ) → not b ≡ true → unit * cond b y 0 ≡ 0
    nil true y f = absurd (false≢true f)
    nil false y f = refl

module _ {c : Chain} {mv : List ℕ} {n q : ℕ} (p : Shows c mv (length mv) n) (e : q ≡ top_of mv (length mv) n) where
  q_shown : q ≡ top_rate c
  q_shown = e ∙ sym (top_shown p)

  load_shown : (t : ℕ) → load_depth (q * t) ≡ depth c t
  unfolding depth load
  load_shown t = rw q_shown refl

  pub started_rounds : (holds : ℕ → Bool) (x : ℕ → ℕ) → StartedRounds c holds x (started_value mv q holds x)
  unfolding run_of
  started_rounds holds x = rw e (record { start = λ s l. refl; next = run_next p (λ s l. refl) (started_held n holds x) })

module _ {c : Chain} {mv first second l₀ l : List ℕ} {n q t d : ℕ} (p : Shows c mv (length mv) n) (e : q ≡ top_of mv (length mv) n)
    (u : Until mv first second n q t l₀ l d) where
  pub low_rounds : Rounds c (low_phase first second) (value_of mv (length mv) q (low_phase first second))
  low_rounds = rw e (reading_rounds false first second p)

  pub high_rounds : Rounds c (high_phase first second) (value_of mv (length mv) q (high_phase first second))
  high_rounds = rw e (reading_rounds true first second p)

  pub depth_shown : d ≡ depth c t
  depth_shown = u.deep ∙ load_shown p e t

  pub lower_shown : (s : ℕ) → s < n → at l s ≡ until_lower_of (top_rate c * t) rate_hundredths (depth c t) (verdicts first s) (verdicts second s)
      (λ k. value_of mv (length mv) q (low_phase first second) k s)
  lower_shown s h = u.ends.lowers s h ∙ rw (load_shown p e t, ap (λ (x : ℕ). x * t) (q_shown p e)) refl

  pub upper_shown : (s : ℕ) → s < n → at l (n + s) ≡ until_upper_of (top_rate c * t) rate_hundredths (depth c t) (verdicts first s) (verdicts second s)
      (λ k. value_of mv (length mv) q (high_phase first second) k s)
  upper_shown s h = u.ends.uppers s h ∙ rw (load_shown p e t, ap (λ (x : ℕ). x * t) (q_shown p e)) refl

module _ {c : Chain} {mv first l₀ l : List ℕ} {n q t d : ℕ} (p : Shows c mv (length mv) n) (e : q ≡ top_of mv (length mv) n)
    (u : Earlier mv first n q t l₀ l d) where
  pub earlier_depth_shown : d ≡ depth c t
  earlier_depth_shown = u.deep ∙ load_shown p e t

  pub earlier_lower_shown : (s : ℕ) → s < n → at l s ≡ earlier_lower_of (top_rate c * t) rate_hundredths (depth c t) (verdicts first s) (at l₀ s)
      (λ k. started_value mv q (λ i. read_as false (verdicts first i)) (at l₀) k s)
  earlier_lower_shown s h = u.ends.lowers s h ∙ rw (load_shown p e t, ap (λ (x : ℕ). x * t) (q_shown p e)) refl

  pub earlier_upper_shown : (s : ℕ) → s < n → at l (n + s) ≡ earlier_upper_of (top_rate c * t) rate_hundredths (depth c t)
      (earlier_gap n (verdicts first) (at l₀) (λ i. at l₀ (n + i))) (verdicts first s) (at l₀ (n + s))
      (λ k. started_value mv q (λ i. read_as false (verdicts first i)) (at l₀) k s)
      (λ k. started_value mv q (λ i. read_as true (verdicts first i)) (λ i. at l₀ (n + i)) k s)
  earlier_upper_shown s h = u.ends.uppers s h ∙ rw (load_shown p e t, ap (λ (x : ℕ). x * t) (q_shown p e)) refl
