-- The quotients of until where nothing has to be summed. Assumes nothing.
use Rattle.std.specs.Prelude.{◌≡◌, Bool, true, false, not, ◌||◌, ℕ, ◌*◌, ◌≤◌, ◌<◌}
use Rattle.std.proofs.Common.{arith, le_refl}
use Rattle.csl.specs.Fraction.{frac, Same}
use Rattle.csl.specs.Chain.{Chain, load, top_rate}
use Rattle.csl.specs.Phase.{bit, divisor, step_top, step_value}
use Rattle.csl.specs.Until.{until_phase, until_quotient}
use Rattle.csl.proofs.Laws.Quotient.{until_le}
use Rattle.csl.proofs.Laws.Point.{step_empty, step_one, step_nil, quotient_ge, quotient_nil, quotient_first}

-- where the second operand holds the quotients are 1
pub until_one : (c : Chain) (t : ℕ) (a b : ℕ → Bool) (s : ℕ) → s < c.states → b s ≡ true → (n : ℕ)
    → (until_quotient c t a b s n).top ≡ (until_quotient c t a b s n).bottom
until_one c t a b s l e n =
    let start : bit (b s) ≡ 1 = rw e in
    let h : (k : ℕ) → divisor c 1 k ≤ step_top c (until_phase a b) k s = λ k. rw (step_one c (until_phase a b) s e start k) (le_refl _) in
    omega (arith, until_le c t a b s n l, quotient_ge (load c t) (step_value c (until_phase a b) s) h n)

-- where neither holds they are 0
pub until_nil : (c : Chain) (t : ℕ) (a b : ℕ → Bool) (s : ℕ) → a s ≡ false → b s ≡ false → (n : ℕ) → (until_quotient c t a b s n).top ≡ 0
until_nil c t a b s e f n =
    let z : not (a s || b s) ≡ true = rw (e, f) in
    let start : bit (b s) ≡ 0 = rw f in
    quotient_nil (load c t) (step_value c (until_phase a b) s) (step_nil c (until_phase a b) s f z start) n

-- with load 0 they are 1 or 0 as the second operand holds
pub until_still : (c : Chain) (t : ℕ) (a b : ℕ → Bool) (s : ℕ) → top_rate c * t ≡ 0 → (n : ℕ)
    → Same (until_quotient c t a b s n) (frac (bit (b s)) 1)
unfolding load step_top divisor
until_still c t a b s e n = quotient_first (load c t) (step_value c (until_phase a b) s) e n

-- where the second operand holds nowhere the quotients are 0
pub until_nowhere : (c : Chain) (t : ℕ) (a b : ℕ → Bool) → ((s : ℕ) → s < c.states → b s ≡ false) → (s n : ℕ) → s < c.states
    → (until_quotient c t a b s n).top ≡ 0
until_nowhere c t a b h s n l =
    let z : (k : ℕ) → step_top c (until_phase a b) k s ≡ 0
    = λ k. omega (arith, step_empty c (until_phase a b) h (λ u m. rw (h u m)) k s l) in
    quotient_nil (load c t) (step_value c (until_phase a b) s) z n
