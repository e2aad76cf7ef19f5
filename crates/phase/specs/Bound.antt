-- Values of at most one stay so: what comes together is at most q times one. Assumes nothing.
use Rattle.std.specs.Prelude.{◌≡◌, Bool, true, false, cond, List}
use Rattle.std.proofs.Math.Path.{refl}
use Prim.Native.Nat.{ℕ, zero, suc, ◌*◌, ◌-◌, ◌/◌, ◌≤◌, ◌<◌}
use native.Mathlib.Omega.{arith}
use Rattle.std.proofs.Common.{sub-add_cancel}
use Rattle.std.proofs.Math.Nat.{div-le_of_le-mul}
use Rattle.numbers.specs.Hint.{le_times, eq_times}
use Rattle.bounds.specs.Unit.{one}
use Rattle.rate_matrix.specs.Words.{to_of, exit_of}
use Rattle.rate_matrix.specs.Lines.{flow_cong, flow_most}
use Rattle.phase.specs.Value.{mixed, next, run_of}

module _ (mv : List ℕ) (m n q : ℕ) (targets : (j : ℕ) → j < m → to_of mv j < n) where
  pub mixed_most : (v : ℕ → ℕ) → ((g : ℕ) → g < n → v g ≤ one) → (s : ℕ) → s < n → exit_of mv m s ≤ q → mixed mv m q v s ≤ q * one
  unfolding mixed
  mixed_most v k s h slow =
      omega (
        arith,
        flow_most mv m n v s one targets k,
        le_times (q - exit_of mv m s) (k s h),
        eq_times one (sub-add_cancel slow),
      )

  held_most : (b : Bool) (x y : ℕ) → x ≤ one → y ≤ one → cond b x y ≤ one
  held_most true x y h k = h
  held_most false x y h k = k

  pub next_most : (held : ℕ → Bool) (v : ℕ → ℕ) → ((g : ℕ) → g < n → v g ≤ one) → (s : ℕ) → s < n → exit_of mv m s ≤ q
      → next mv m q held v s ≤ one
  unfolding next
  next_most held v k s h slow =
      held_most (held s) (v s) (mixed mv m q v s / q) (k s h) (div-le_of_le-mul q (omega (arith, mixed_most v k s h slow)))

  pub run_most : (start : ℕ → ℕ) (held : ℕ → Bool) → ((s : ℕ) → s < n → start s ≤ one) → ((s : ℕ) → s < n → exit_of mv m s ≤ q)
      → (k s : ℕ) → s < n → run_of mv m q start held k s ≤ one
  unfolding run_of
  run_most start held i slow zero s h = i s h
  run_most start held i slow (suc k) s h = next_most held (run_of mv m q start held k) (run_most start held i slow k) s h (slow s h)

  -- values that agree on the states, with the same ones held, step alike
  pub next_cong : (held held' : ℕ → Bool) (v u : ℕ → ℕ) → ((g : ℕ) → g < n → held g ≡ held' g) → ((g : ℕ) → g < n → v g ≡ u g)
      → (s : ℕ) → s < n → next mv m q held v s ≡ next mv m q held' u s
  unfolding next mixed
  next_cong held held' v u f e s h = rw (flow_cong mv v u s n m targets e, e s h, f s h) refl

  pub run_cong : (start start' : ℕ → ℕ) (held held' : ℕ → Bool) → ((g : ℕ) → g < n → start g ≡ start' g)
      → ((g : ℕ) → g < n → held g ≡ held' g) → (k s : ℕ) → s < n → run_of mv m q start held k s ≡ run_of mv m q start' held' k s
  unfolding run_of
  run_cong start start' held held' e f zero s h = e s h
  run_cong start start' held held' e f (suc k) s h =
      next_cong held held' (run_of mv m q start held k) (run_of mv m q start' held' k) f (run_cong start start' held held' e f k) s h
