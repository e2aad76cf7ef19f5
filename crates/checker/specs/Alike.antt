-- Runs over moves texts that say the same chain leave the same report, byte for byte. Assumes nothing.
use Rattle.std.specs.Prelude.{◌≡◌, List, ℕ, length, None}
use Rattle.std.proofs.Math.Path.{refl, ap, sym}
use Rattle.std.proofs.Common.{◌∙◌}
use Rattle.csl.specs.Text.{Text}
use Rattle.csl.specs.Moves.{moves_of}
use Rattle.csl.specs.Labels.{states_of}
use Rattle.csl.specs.Chain.{Chain, top_rate}
use Rattle.csl.specs.Report.{depth_of}
use Rattle.csl.specs.Lent.{Buffers, lengths, filled}
use Rattle.csl.specs.Refusal.{job_formula, sheet_tests, first_of, refusal, Outcome, accepted, outcome_by, outcome}
use Rattle.same_chain.specs.SameJob.{SameLines, same_outcome, same_count}
use Rattle.same_chain.specs.SameRates.{EqualRates, one_chain}
use Rattle.same_chain.specs.Chains.{chain_in}
use Rattle.checker.specs.Job.{job}
use Rattle.checker.specs.Leaves.{left_by, leaves}

-- "lines may stand in any order": every place of every lent buffer is the same
pub same_bytes : (a b : Text) → SameLines a b → (labels formula : Text) (before : Buffers (List ℕ))
    → leaves (job a labels formula) before ≡ leaves (job b labels formula) before
unfolding leaves
same_bytes a b h labels formula before =
    ap (λ (o : Outcome). left_by (states_of labels) (length (moves_of a)) o before) (same_outcome a b h labels formula (lengths before))
    ∙ ap (λ (m : ℕ). left_by (states_of labels) m (outcome (job b labels formula) (lengths before)) before) (same_count a b h)

-- "repeated pairs are added together": the report is the same, and the order of its states
pub record SameReport (x y : Buffers (List ℕ)) : Type 0 where
  pub lower : x.lower ≡ y.lower
  pub upper : x.upper ≡ y.upper
  pub verdicts : x.verdicts ≡ y.verdicts
  pub order : x.order ≡ y.order

module _ (labels a b : Text) (passed-a : first_of (sheet_tests a labels) ≡ None) (passed_b : first_of (sheet_tests b labels) ≡ None)
    (h : EqualRates labels a b) (formula : Text) (before : Buffers (List ℕ))
    (accepted-a : refusal (job a labels formula) (lengths before) ≡ None) (accepted-b : refusal (job b labels formula) (lengths before) ≡ None) where
  abbrev outcome_of : Text → Chain → Outcome
  outcome_of m c = accepted c (job_formula (job m labels formula)) (top_rate c) (depth_of c (job_formula (job m labels formula)))

  accepted_as : (m : Text) → refusal (job m labels formula) (lengths before) ≡ None
      → outcome (job m labels formula) (lengths before) ≡ outcome_of m (chain_in m labels)
  unfolding outcome outcome_by
  accepted_as m e = ap (outcome_by (job m labels formula)) e

  left : (m : Text) (c : Chain) → refusal (job m labels formula) (lengths before) ≡ None → chain_in m labels ≡ c
      → leaves (job m labels formula) before ≡ left_by (states_of labels) (length (moves_of m)) (outcome_of m c) before
  unfolding leaves
  left m c e k =
      ap (λ (o : Outcome). left_by (states_of labels) (length (moves_of m)) o before) (accepted_as m e ∙ ap (outcome_of m) k)

  pub same_report : SameReport (leaves (job a labels formula) before) (leaves (job b labels formula) before)
  unfolding left_by filled
  same_report =
      let x = left a (chain_in b labels) accepted-a (one_chain labels a b passed-a passed_b h) in
      let y = left b (chain_in b labels) accepted-b refl in
      record {
        lower = ap (λ (z : Buffers (List ℕ)). z.lower) x ∙ sym (ap (λ (z : Buffers (List ℕ)). z.lower) y);
        upper = ap (λ (z : Buffers (List ℕ)). z.upper) x ∙ sym (ap (λ (z : Buffers (List ℕ)). z.upper) y);
        verdicts = ap (λ (z : Buffers (List ℕ)). z.verdicts) x ∙ sym (ap (λ (z : Buffers (List ℕ)). z.verdicts) y);
        order = ap (λ (z : Buffers (List ℕ)). z.order) x ∙ sym (ap (λ (z : Buffers (List ℕ)). z.order) y);
      }
