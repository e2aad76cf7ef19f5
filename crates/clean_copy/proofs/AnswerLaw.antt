-- Whether the copy fits, and what is answered and left where it does and where it does not. Assumes nothing.
use Rattle.std.specs.Prelude.{◌≡◌, refl, List, ℕ, ◌≤◌, ◌<◌, length, Ok, Err}
use Rattle.std.proofs.Common.{ap, ◌∙◌, arith, lt-ltb, le-ltb}
use Rattle.csl.specs.Text.{Text}
use Rattle.csl.specs.Copy.{copied, CopiedBy}
use Rattle.decimals.specs.Place.{written_at, Wrote}
use Rattle.verdicts.specs.declared.refusal.Refusal.TheVariants.{ShortCopy}
use Rattle.clean_copy.specs.Answer.{CopiedAs}

module _ (copy : Text) {k : ℕ} (old : List ℕ) (e : k ≡ length copy) where
  pub copy_short : length old < k → CopiedAs copy old (Err ShortCopy) old
  unfolding CopiedBy
  copy_short h = rw (lt-ltb (length old) (length copy) (omega arith)) (refl, refl)

  pub copy_shown : {r : ℕ} {new : List ℕ} → k ≤ length old → Wrote 0 copy old new r → CopiedAs copy old (Ok r) new
  unfolding CopiedBy written_at
  copy_shown h w = rw (le-ltb (length old) (length copy) (omega arith)) (ap (λ (n : ℕ). copied n) (w.after ∙ omega arith), w.holds)

pub ruleset answer_laws = (copy_short, copy_shown)
