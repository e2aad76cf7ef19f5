-- Two moves texts over the same labels, both of which passed: where their rates are the same, all that is said of a job over one is said of it over
-- the other; and they are the same exactly where the copies are. Assumes nothing.
use Rattle.std.specs.Prelude.{◌≡◌, refl, Bool, true, false, ℕ, ◌<◌, None}
use Rattle.std.proofs.Common.{ap, sym, subst, ◌∙◌}
use Rattle.csl.specs.Text.{Text}
use Rattle.csl.specs.Limits.{formula_bytes}
use Rattle.csl.specs.Labels.{names_of, states_of}
use Rattle.csl.specs.Moves.{moves_of, rate_in}
use Rattle.csl.specs.Grammar.{read_formula}
use Rattle.csl.specs.Chain.{Chain, top_rate}
use Rattle.csl.specs.Verdicts.{Verdict}
use Rattle.csl.specs.Report.{Reported}
use Rattle.csl.specs.Refusal.{Job, job_chain, job_formula, out_of_bytes, sheet_tests, formula_tests, first_of, text_refusal}
use Rattle.csl.specs.Copy.{copy_of, copy_text}
use Rattle.accepted.specs.Sheet.{sheet_passed}
use Rattle.accepted.specs.Job.{formula_too_long, left_to_formula}
use Rattle.same_chain.specs.Chains.{chain_in, same_everywhere, same_below}
use Rattle.same_chain.specs.Copies.{copy_rates}

-- "every pair has equal rate"
abbrev pub EqualRates : (labels a b : Text) → Type 0
EqualRates labels a b = (s t : ℕ) → s < states_of labels → t < states_of labels → rate_in (moves_of a) s t ≡ rate_in (moves_of b) s t

module _ (labels a b : Text) (passed-a : first_of (sheet_tests a labels) ≡ None) (passed_b : first_of (sheet_tests b labels) ≡ None) where
  pub one_chain : EqualRates labels a b → chain_in a labels ≡ chain_in b labels
  one_chain h =
      same_everywhere a b labels
      (same_below (states_of labels) (moves_of a) (moves_of b) (sheet_passed a labels passed-a).sound.within (sheet_passed b labels passed_b).sound.within h)

  pub equal_copies : EqualRates labels a b → copy_text a labels ≡ copy_text b labels
  equal_copies h = ap copy_of (one_chain h)

  pub equal_rates : copy_text a labels ≡ copy_text b labels → EqualRates labels a b
  equal_rates h s t l k =
      sym (copy_rates a labels passed-a s t) ∙ ap (λ (x : Text). rate_in (moves_of x) s t) h ∙ copy_rates b labels passed_b s t

  module _ (h : EqualRates labels a b) (formula : Text) where
    abbrev one : Job
    one = record { moves = a; labels = labels; formula = formula }

    abbrev other : Job
    other = record { moves = b; labels = labels; formula = formula }

    pub same_text_refusal : text_refusal one ≡ text_refusal other
    same_text_refusal = go (out_of_bytes formula_bytes formula) refl
      where
        go : (x : Bool) → out_of_bytes formula_bytes formula ≡ x → text_refusal one ≡ text_refusal other
        go true e = formula_too_long one e ∙ sym (formula_too_long other e)
        go false e =
            left_to_formula one e passed-a
            ∙ ap (λ (c : Chain). first_of (formula_tests (names_of labels) (top_rate c) (read_formula formula))) (one_chain h)
            ∙ sym (left_to_formula other e passed_b)

    pub same_reports : (lower upper : ℕ → ℕ) (v : ℕ → Verdict) → Reported (job_chain one) (job_formula one) lower upper v
        → Reported (job_chain other) (job_formula other) lower upper v
    same_reports lower upper v k = subst (λ (c : Chain). Reported c (job_formula one) lower upper v) (one_chain h) k
