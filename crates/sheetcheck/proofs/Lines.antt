-- How long the printed text is at most. Assumes nothing.
use mathlib.Core.List.{List, [], ◌∷◌}
use Prim.Native.Nat.{ℕ, ◌*◌, ◌≤◌, ◌<◌}
use native.Mathlib.Omega.{arith}
use lib.ListN.{length, length-append}
use Rattle.csl.specs.Verdicts.{Verdict, No, Yes, Undecided}
use Rattle.csl.specs.Order.{is_above, worst_first, by_number, In}
use Rattle.csl.specs.Order.In.{here, there}
use Rattle.csl.specs.Report.{verdict_word, row_text, rows_text, listing_text, report_text}
use Rattle.csl.proofs.Laws.Order.{rows_rank, ordered_within, ordered_length}
use Rattle.csl.proofs.Laws.Listing.{by_number_within, by_number_length}
use Rattle.csl.proofs.Laws.Decimal.{length_within}
use Rattle.sheetcheck.proofs.Limits.{InRange}

-- the longest word is `undecided`
word_few : (v : Verdict) → length (verdict_word v) ≤ 9
word_few No = omega arith
word_few Yes = omega arith
word_few Undecided = omega arith

-- a line, the lines, the text
row_few : (s l u d : ℕ) (v : Verdict) → s < 1000 → InRange l u → d < 1000 → length (row_text s l u d v) ≤ 40
unfolding row_text
row_few s l u d v a e b =
    simp length-append
    (omega (
      arith,
      length_within 2 s (omega arith),
      length_within 9 l (omega (arith, e.low)),
      length_within 9 u (omega (arith, e.high)),
      length_within 2 d (omega arith),
      word_few v,
    ))

module _ (n : ℕ) (lower upper : ℕ → ℕ) (d : ℕ) (v : ℕ → Verdict) (a : n ≤ 512) (e : (s : ℕ) → s < n → InRange (lower s) (upper s)) (b : d ≤ 336) where
  rows_few : (l : List ℕ) → ((s : ℕ) → In s l → s < n) → length (rows_text l lower upper d v) ≤ 40 * length l
  unfolding rows_text
  rows_few [] i = omega arith
  rows_few (s ∷ l) i =
      let h : s < n = i s here in
      simp length-append
      (omega (arith, rows_few l (λ t k. i t (there k)), row_few s (lower s) (upper s) d (v s) (omega arith) (e s h) (omega arith)))

  pub report_few : length (report_text n lower upper d v) ≤ 41024
  unfolding report_text listing_text
  report_few =
      simp length-append
      (omega (
        arith,
        rows_few (by_number n) (by_number_within n),
        by_number_length n,
        rows_few (worst_first lower upper n) (ordered_within _ (rows_rank lower upper) n),
        ordered_length (is_above lower upper) n,
      ))
