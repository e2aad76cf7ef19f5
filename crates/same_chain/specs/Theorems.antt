-- What follows for texts that say the same chain: "lines may stand in any order and repeated pairs are added together"; and for the clean copy.
-- Nothing here speaks of a program. Assumes nothing.
use Rattle.std.specs.Prelude.{◌≡◌, refl, true, List, ℕ, ◌≤◌, length, None}
use Rattle.std.proofs.Common.{sym}
use Rattle.csl.specs.Text.{Text}
use Rattle.csl.specs.Moves.{moves_of, rate_in}
use Rattle.csl.specs.Verdicts.{Verdict}
use Rattle.csl.specs.Report.{Reported}
use Rattle.csl.specs.Lent.{Buffers}
use Rattle.csl.specs.Refusal.{Job, job_chain, job_formula, sheet_tests, text_refusal, first_of, refusal, outcome}
use Rattle.csl.specs.Finished.{Answer, Finished}
use Rattle.csl.specs.Copy.{is_rising, copy_text}
use Rattle.same_chain.specs.Chains.{chain_in}
use Rattle.same_chain.specs.Copies as copies
use Rattle.same_chain.specs.SameJob as jobs
use Rattle.same_chain.specs.SameJob.{SameLines}
use Rattle.same_chain.specs.SameRates as rates
use Rattle.same_chain.specs.SameRates.{EqualRates}

-- a job of three texts
abbrev pub job_with : (moves labels formula : Text) → Job
job_with moves labels formula = record { moves = moves; labels = labels; formula = formula }

-- T11. "lines may stand in any order": two moves texts with the same first line, and then the same lines in another order. Whatever the labels, the
-- formula and the lent buffers, the two jobs get the same refusal or the same outcome (chain, formula, q and depth), and what is finished for one
-- is finished for the other: no report of the one is none of the other.
module _ (a b : Text) (h : SameLines a b) (labels formula : Text) where
  pub refused_in_any_order : (lent : Buffers ℕ) → refusal (job_with a labels formula) lent ≡ refusal (job_with b labels formula) lent
  refused_in_any_order = jobs.same_refusal a b h labels formula

  pub decided_in_any_order : (lent : Buffers ℕ) → outcome (job_with a labels formula) lent ≡ outcome (job_with b labels formula) lent
  decided_in_any_order = jobs.same_outcome a b h labels formula

  pub finished_in_any_order : (before : Buffers (List ℕ)) (x : Answer) (after : Buffers (List ℕ))
      → Finished (job_with a labels formula) before x after → Finished (job_with b labels formula) before x after
  finished_in_any_order = jobs.same_finished a b h labels formula

-- T12. "repeated pairs are added together": two moves texts that passed over the same labels, with equal rates between all states, however many
-- lines say them. They say one chain; so a formula over one is refused as over the other, and has the same reports. "Two accepted move texts over the
-- same labels have equal copies exactly when every pair has equal rate."
module _ (labels a b : Text) (passed-a : first_of (sheet_tests a labels) ≡ None) (passed_b : first_of (sheet_tests b labels) ≡ None) where
  pub equal_rates_are_one_chain : EqualRates labels a b → chain_in a labels ≡ chain_in b labels
  equal_rates_are_one_chain = rates.one_chain labels a b passed-a passed_b

  pub equal_copies_exactly_when_rates_are_equal : (EqualRates labels a b → copy_text a labels ≡ copy_text b labels)
      × (copy_text a labels ≡ copy_text b labels → EqualRates labels a b)
  equal_copies_exactly_when_rates_are_equal = (rates.equal_copies labels a b passed-a passed_b, rates.equal_rates labels a b passed-a passed_b)

  module _ (h : EqualRates labels a b) (formula : Text) where
    pub refused_alike : text_refusal (job_with a labels formula) ≡ text_refusal (job_with b labels formula)
    refused_alike = rates.same_text_refusal labels a b passed-a passed_b h formula

    pub reported_alike : (lower upper : ℕ → ℕ) (v : ℕ → Verdict)
        → Reported (job_chain (job_with a labels formula)) (job_formula (job_with a labels formula)) lower upper v
        → Reported (job_chain (job_with b labels formula)) (job_formula (job_with b labels formula)) lower upper v
    reported_alike = rates.same_reports labels a b passed-a passed_b h formula

-- T13. The copy of a text that passed: "the moves text that document 01 described, .. pairs rising and none twice".
module _ (moves labels : Text) (passed : first_of (sheet_tests moves labels) ≡ None) where
  pub copies_are_accepted : first_of (sheet_tests (copy_text moves labels) labels) ≡ None
  copies_are_accepted = copies.copy_passes moves labels passed

  -- "Reading its output yields the same chain"
  pub reading_the_copy_yields_the_same_chain : chain_in (copy_text moves labels) labels ≡ chain_in moves labels
  reading_the_copy_yields_the_same_chain = copies.copy_chain moves labels passed

  pub copies_rise : is_rising (moves_of (copy_text moves labels)) ≡ true
  copies_rise = copies.copy_rises moves labels passed

  -- there is no other: a text that passed, rises and has these rates is the copy, byte for byte; so a text that rises is its own copy
  pub only_the_copy_rises : (b : Text) → first_of (sheet_tests b labels) ≡ None → is_rising (moves_of b) ≡ true
      → ((s t : ℕ) → rate_in (moves_of b) s t ≡ rate_in (moves_of moves) s t) → b ≡ copy_text moves labels
  only_the_copy_rises = copies.rising_is_the_copy moves labels passed

  pub risen_is_its_own_copy : is_rising (moves_of moves) ≡ true → copy_text moves labels ≡ moves
  risen_is_its_own_copy r = sym (only_the_copy_rises moves passed r (λ s t. refl))

  pub copy_of_a_copy : copy_text (copy_text moves labels) labels ≡ copy_text moves labels
  copy_of_a_copy = copies.copy_of_copy moves labels passed

  pub copies_are_no_longer : length (copy_text moves labels) ≤ length moves
  copies_are_no_longer = copies.copy_short moves labels passed
