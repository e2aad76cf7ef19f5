-- Where the words show a chain, with its rates to the own state in their column, the ends are those of the chain's next move. Assumes nothing.
use Rattle.std.specs.Prelude.{◌≡◌, Bool, List, ℕ, ◌*◌, ◌<◌, length}
use Rattle.std.proofs.Math.Path.{refl}
use Rattle.std.proofs.Common.{ap, sym, ◌∙◌, arith}
use Rattle.std.proofs.Math.Bool.{true, false}
use Rattle.csl.specs.Chain.{Chain, sum_to, away}
use Rattle.csl.specs.Phase.{bit}
use Rattle.csl.specs.Verdicts.{Verdict}
use Rattle.csl.specs.Next.{next_exit_rate, entering_rate, next_fraction, next_lower, next_upper}
use Rattle.csl.proofs.Laws.OwnState.{exit_own, entering_own}
use Rattle.verdicts.specs.Byte.{verdicts, read_as}
use Rattle.rate_matrix.specs.Words.{flow}
use Rattle.rate_matrix.specs.Shown.{Shows, exit_shown, flow_shown}
use Rattle.rate_matrix.specs.Lines.{flow_cong}
use Rattle.vectors.specs.Owns.{Owns}
use Rattle.next_move.specs.Row.{held_in}
use Rattle.next_move.specs.Ends.{exit_in, entering_in, lower_at, upper_at}

module _ {c : Chain} {mv l : List ℕ} {n : ℕ} (p : Shows c mv (length mv) n) (o : Owns c l n) (s : ℕ) (h : s < n) where
  here : s < c.states
  here = omega (arith, p.states)

  pub exit_is : exit_in mv l n s ≡ next_exit_rate c s
  exit_is = omega (arith, exit_own c s here, exit_shown p s h, o.owns s h)

  -- where the row of the operand holds the verdicts v
  module _ (operand : List ℕ) (v : ℕ → Verdict) (e : (t : ℕ) → t < n → verdicts operand t ≡ v t) where
    entering_is : (b : Bool) → entering_in b mv l operand n s ≡ entering_rate c (λ t. read_as b (v t)) s
    entering_is b =
        let same : (t : ℕ) → t < n → held_in b operand t ≡ bit (read_as b (v t)) = λ t m. ap (λ (x : Verdict). bit (read_as b x)) (e t m) in
        let f : flow mv (length mv) (held_in b operand) s ≡ sum_to (λ t. away c s t * bit (read_as b (v t))) c.states
        = flow_cong mv (held_in b operand) (λ t. bit (read_as b (v t))) s n (length mv) p.targets same ∙ sym (flow_shown p (λ t. bit (read_as b (v t))) s h) in
        rw (f, o.owns s h, same s h) (sym (entering_own c s here (λ t. read_as b (v t))))

    pub lower_is : lower_at mv l operand n s ≡ next_lower c v s
    unfolding next_fraction
    lower_is = rw (entering_is false, exit_is) refl

    pub upper_is : upper_at mv l operand n s ≡ next_upper c v s
    unfolding next_fraction
    upper_is = rw (entering_is true, exit_is) refl
