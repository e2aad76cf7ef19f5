-- A text that grows part by part, as a loop writes it: `whole i` is the text before part i. Assumes nothing.
use Rattle.std.specs.Prelude.{◌≡◌, List, ◌++◌, ℕ, zero, suc, ◌+◌, ◌≤◌, ◌<◌, length}
use Rattle.std.proofs.Common.{ap, ◌∙◌, ⊎_elim, arith, add-one, le_refl, length-append}
use Rattle.std.proofs.Math.Nat.{le-suc_iff}
use Rattle.csl.specs.Text.{Text}
use Rattle.decimals.specs.Place.{Room, Wrote}
use Rattle.decimals.specs.Writing.{wrote_more}

module _ (whole part : ℕ → Text) (n : ℕ) (next : (i : ℕ) → i < n → whole (i + 1) ≡ whole i ++ part i) where
  -- how long it is with one part more; more parts, no fewer bytes
  pub length_next : (i : ℕ) → i < n → length (whole (i + 1)) ≡ length (whole i) + length (part i)
  length_next i h = ap length (next i h) ∙ length-append (whole i) (part i)

  length_rises : (i k : ℕ) → i ≤ k → k ≤ n → length (whole i) ≤ length (whole k)
  length_rises i zero h l = let e : i ≡ 0 = omega arith in rw e (le_refl _)
  length_rises i (suc k) h l =
      let more : length (whole (suc k)) ≡ length (whole k) + length (part k) = rw (← add-one k) (length_next k (omega arith)) in
      ⊎_elim (λ j. omega (arith, length_rises i k j (omega arith))) (λ e. rw e (le_refl _)) (le-suc_iff.0 h)

  -- the parts so far and the next one are among all parts
  pub length_among : (i : ℕ) → i < n → length (whole i) + length (part i) ≤ length (whole n)
  length_among i h = omega (arith, length_next i h, length_rises (i + 1) n (omega arith) (le_refl n))

  -- there is room for the next, and with it one part more is written
  pub part_room : (i : ℕ) {at m : ℕ} {old mid : List ℕ} → i < n → Room at (whole n) old → Wrote at (whole i) old mid m → length mid ≡ length old
      → Room m (part i) mid
  part_room i h room w e = omega (arith, length_among i h)

  pub part_wrote : (i : ℕ) {at m r : ℕ} {old mid new : List ℕ} → i < n → Room at (whole n) old → Wrote at (whole i) old mid m
      → Wrote m (part i) mid new r → Wrote at (whole (i + 1)) old new r
  part_wrote i h room w v = rw (next i h) (wrote_more (omega (arith, length_among i h)) w v)
