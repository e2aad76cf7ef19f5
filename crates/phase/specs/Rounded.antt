-- The values that the code works out are rounded step values of a phase of the chain that the words show: a value that is held starts as
-- what it is held at. Assumes nothing.
use Rattle.std.specs.Prelude.{◌≡◌, Bool, true, false, cond, ◌||◌, List}
use Rattle.std.proofs.Math.Path.{refl}
use Rattle.std.proofs.Common.{◌∙◌, arith}
use Prim.Native.Nat.{ℕ, zero, suc, ◌+◌, ◌*◌, ◌/◌, ◌≤◌, ◌<◌}
use Rattle.csl.specs.Chain.{Chain, top_rate}
use Rattle.csl.specs.Phase.{Phase, moved}
use Rattle.bounds.specs.Unit.{one}
use Rattle.bounds.specs.StepValues.{settled, Runs}
use Rattle.rate_matrix.specs.Words.{top_of}
use Rattle.rate_matrix.specs.Shown.{Shows, top_shown, moved_shown}
use Rattle.phase.specs.Value.{held_of, mixed, next, run_of}

-- values of step 0 that are 1 and 0 where a phase of n states holds them so
pub record StartsHeld (n : ℕ) (ph : Phase) (start : ℕ → ℕ) : Type 0 where
  pub ones : (s : ℕ) → s < n → ph.one s ≡ true → start s ≡ one
  pub nils : (s : ℕ) → s < n → ph.one s ≡ false → ph.nil s ≡ true → start s ≡ 0

module _ (mv : List ℕ) (m q : ℕ) (start : ℕ → ℕ) (held : ℕ → Bool) where
  held_value : (k s : ℕ) → held s ≡ true → run_of mv m q start held k s ≡ start s
  unfolding run_of next
  held_value zero s e = refl
  held_value (suc k) s e = rw e (held_value k s e)

-- which rule a later step follows
step_settled : (o z : Bool) (x y start : ℕ) → (o ≡ true → start ≡ one) → (o ≡ false → z ≡ true → start ≡ 0)
    → ((o || z) ≡ true → x ≡ start) → cond (o || z) x y ≡ settled o z y
step_settled true z x y start h k e = e refl ∙ h refl
step_settled false true x y start h k e = e refl ∙ k refl refl
step_settled false false x y start h k e = refl

module _ {c : Chain} {mv : List ℕ} {m n : ℕ} {ph : Phase} {start : ℕ → ℕ} {held : ℕ → Bool} (p : Shows c mv m n)
    (h : (s : ℕ) → s < n → held s ≡ held_of ph s) (i : StartsHeld n ph start) where
  pub run_next : (k s : ℕ) → s < c.states
      → run_of mv m (top_of mv m n) start held (suc k) s
      ≡ settled (ph.one s) (ph.nil s) (moved c (run_of mv m (top_of mv m n) start held k) s / top_rate c)
  unfolding run_of next mixed
  run_next k s b =
      let l : s < n = omega (arith, p.states) in
      rw (moved_shown p (run_of mv m (top_of mv m n) start held k) s l, top_shown p, h s l)
      (step_settled (ph.one s) (ph.nil s) (run_of mv m (top_of mv m n) start held k s) _ (start s) (i.ones s l) (i.nils s l)
      (λ e. held_value mv m (top_of mv m n) start held k s (h s l ∙ e)))

  -- a start that lies at most e units below that of the phase
  pub runs : {e : ℕ} → ((s : ℕ) → s < n → start s * ph.whole ≤ one * ph.start s)
      → ((s : ℕ) → s < n → one * ph.start s ≤ (start s + e) * ph.whole) → Runs c ph e (run_of mv m (top_of mv m n) start held)
  unfolding run_of
  runs below near =
      record {
        below = λ s b. below s (omega (arith, p.states));
        near = λ s b. near s (omega (arith, p.states));
        next = run_next;
      }
