-- The start vector and what stays put. Assumes nothing.
use mathlib.Core.Path.{◌≡◌, refl, ap, ◌∙◌}
use mathlib.Core.List.{List}
use mathlib.Core.Bool.{Bool, true, false, not, cond, ◌||◌}
use Prim.Native.Nat.{ℕ, ◌+◌, ◌*◌, ◌≤◌, ◌<◌}
use native.Mathlib.Omega.{arith}
use lib.ListN.{set}
use lib.Seq.{get_or-set_other}
use mir.Val.{Fits}
use mir.Syntax.{w64}
use Rattle.numbers.specs.Filled.{Twin, twin_more}
use Rattle.bounds.specs.Unit.{unit}
use Rattle.bounds.proofs.StepValues.{verdict_at}
use Rattle.vectors.specs.Places.{at, exit_at}
use Rattle.phase.specs.Value.{held_of, stay_of}
use Rattle.until.specs.Reading.{read_as, read_phase, end_of}
use Rattle.until.specs.Asked.{LayAsked}
use Rattle.until.proofs.HeldLaw.{end_at_lem}

-- what is laid for the states before s
abbrev pub LaidTo : (first second : List ℕ) (n q : ℕ) (b : Bool) (s : ℕ) → (l₀ l : List ℕ) → Type 0
LaidTo first second n q b s l₀ l =
    Twin (λ g. unit * end_of b l₀ n g) (λ g. stay_of q (exit_at l₀ n g) (held_of (read_phase b first second) g)) (3 * n) (5 * n) s l₀ l

column_near : (b : Bool) (n from : ℕ) → from ≡ cond b n 0 → from ≤ n
column_near true n from e = omega arith
column_near false n from e = omega arith

module _ {l₀ l first second : List ℕ} {n q : ℕ} (b : Bool) {from s : ℕ} (asked : LayAsked l₀ first second n q)
    (v : LaidTo first second n q b s l₀ l) (column : from ≡ cond b n 0) (h : s < n) where
  near : from ≤ n
  near = column_near b n from column

  end_is : at l (from + s) ≡ end_of b l₀ n s
  end_is =
      v.else (from + s) (λ a c. absurd (omega (arith, near))) (λ a c. absurd (omega (arith, near)))
      ∙ end_at_lem b l₀ n from s column

  pub end_fits : Fits w64 (unit * at l (from + s))
  end_fits = omega (arith, end_is, asked.ends.small b s h)

  module _ (x : ℕ) where
    exit_is : at (set l (3 * n + s) x) (6 * n + s) ≡ at l₀ (6 * n + s)
    exit_is =
        get_or-set_other l (3 * n + s) (6 * n + s) x 0 (omega arith)
        ∙ v.else (6 * n + s) (λ a c. absurd (omega arith)) (λ a c. absurd (omega arith))

    pub turn : (y : ℕ) (u w h₀ : Bool) → x ≡ unit * at l (from + s) → w ≡ read_as b (verdict_at (at second s)) → u ≡ read_as b (verdict_at (at first s))
        → h₀ ≡ (w || not (u || w)) → y ≡ stay_of q (at (set l (3 * n + s) x) (6 * n + s)) h₀
        → LaidTo first second n q b (s + 1) l₀ (set (set l (3 * n + s) x) (5 * n + s) y)
    turn y u w h₀ e i f g r =
        twin_more x y v (omega arith) (omega (arith, v.same, asked.long)) (e ∙ ap (λ (z : ℕ). unit * z) end_is)
        (r ∙ rw (exit_is, g, i, f) refl)
