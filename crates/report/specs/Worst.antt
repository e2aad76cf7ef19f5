-- The listings that are printed are those of a report, where the lists hold its ends and verdicts and the order is that of its second listing.
-- Assumes nothing.
use Rattle.std.specs.Prelude.{◌≡◌, refl, true, List, [], ◌∷◌, ℕ, ◌<◌, ltb}
use Rattle.std.proofs.Math.Path.{sym}
use Rattle.std.proofs.Common.{◌∙◌, lt-ltb}
use Rattle.std.proofs.Math.ListN.{take}
use Rattle.csl.specs.Text.{every}
use Rattle.csl.specs.Verdicts.{Verdict}
use Rattle.csl.specs.Order.{worst_first, In}
use Rattle.csl.specs.Order.In.{here, there}
use Rattle.csl.specs.Report.{report_text}
use Rattle.csl.specs.Finished.{accepted_with}
use Rattle.csl.proofs.Laws.Order.{rows_rank, ordered_within, order_same}
use Rattle.csl.proofs.Laws.Listing.{report_same}
use Rattle.report.specs.Listing.{entry, verdict_in, listings, are_states}

-- each number of a list that has states alone is below n
within_every : (n : ℕ) (l : List ℕ) → ((s : ℕ) → In s l → s < n) → every (λ s. ltb s n) l ≡ true
unfolding every
within_every n [] h = refl
within_every n (s ∷ l) h = rw (lt-ltb s n (h s here), within_every n l (λ t i. h t (there i))) refl

module _ (n : ℕ) (lo up : ℕ → ℕ) (order : List ℕ) (o : take n order ≡ worst_first lo up n) where
  -- the order of the second listing has states alone
  pub worst_are_states : are_states n order ≡ true
  worst_are_states = rw o (within_every n (worst_first lo up n) (ordered_within _ (rows_rank lo up) n))

  -- the text is the report's
  pub worst_listed : (lower upper verdicts : List ℕ) (v : ℕ → Verdict) (d : ℕ) → ((s : ℕ) → s < n → entry lower s ≡ lo s)
      → ((s : ℕ) → s < n → entry upper s ≡ up s) → ((s : ℕ) → s < n → verdict_in verdicts s ≡ v s)
      → listings n (accepted_with d) lower upper verdicts order ≡ report_text n lo up d v
  unfolding listings report_text
  worst_listed lower upper verdicts v d a b c =
      let e : take n order ≡ worst_first (entry lower) (entry upper) n = o ∙ sym (order_same (entry lower) (entry upper) lo up n a b) in
      rw e (report_same (entry lower) (entry upper) lo up (verdict_in verdicts) v n a b c d)
