-- A copy that was made, told by a number and a stored length. Assumes nothing.
use mathlib.Core.Path.{◌≡◌, refl, sym, subst}
use mathlib.Core.List.{List}
use Rattle.std.specs.Prelude.{Option, None, Some, Ok, Err}
use Prim.Native.Nat.{ℕ, zero, suc, ◌<◌}
use native.Mathlib.Omega.{arith}
use lib.ListN.{length}
use Rattle.csl.specs.Text.{Text}
use Rattle.csl.specs.Copy.{CopyAnswer, copy_refused, copied, copy_text, copy_refusal, CopiedBy, Copied}
use Rattle.clean_copy.specs.Answer.{answer_of}
use Rattle.clean_copy.specs.Number.{copy_number_some}
use Rattle.verdicts.specs.Refusal.{number_of}
use Rattle.verdicts.specs.declared.refusal.Refusal.{Refusal}
use Rattle.sebdyqul.specs.Called.{copy_answer_from, CopyCalled}

module _ (moves labels : Text) (before after : List ℕ) where
  -- a number other than 0, where an answer is a refusal
  abbrev Told : CopyAnswer → Type 0
  Told (copy_refused k) = 0 < k
  Told (copied n) = Unit {0}

  told : (a : CopyAnswer) → Copied moves labels before a after → Told a
  unfolding Copied CopiedBy
  told a c = go (copy_refusal moves labels (length before)) refl c
    where
      go : (o : Option ℕ) → copy_refusal moves labels (length before) ≡ o → CopiedBy o (copy_text moves labels) before a after → Told a
      go (Some k) e t = subst Told (sym t.0) (copy_number_some moves labels (length before) k e)
      go None e t = subst Told (sym t.0) tt

  -- the number of a refusal is told as it is
  same_answer : (k n : ℕ) → 0 < k → copy_answer_from k n ≡ copy_refused k
  same_answer zero n h = absurd (omega arith)
  same_answer (suc k) n h = refl

  module _ (old : ℕ) where
    pub copied_called : (n : ℕ) → Copied moves labels before (answer_of (Ok n)) after → CopyCalled moves labels before old 0 n after
    copied_called n c = record { made = c; kept = λ h. absurd (omega arith) }

    pub refused_called : (r : Refusal) {k : ℕ} → k ≡ number_of r → Copied moves labels before (answer_of (Err r)) after
        → CopyCalled moves labels before old k old after
    refused_called r e c =
        let some = told (copy_refused (number_of r)) c in
        rw e (record { made = rw (same_answer (number_of r) old some) c; kept = λ h. refl })
