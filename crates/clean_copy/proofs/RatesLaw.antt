-- The rates of one state, added up word by word. Assumes nothing.
use Rattle.std.specs.Prelude.{◌≡◌, refl, cond, List, ℕ, suc, ◌+◌, ◌-◌, ◌^◌, ◌≤◌, ◌<◌, length, take, drop, set, replicate, eqb}
use Rattle.std.proofs.Common.{sym, ap, ◌∙◌, arith, zero-add, length-take-le, length-drop, Fits, w64}
use Rattle.std.proofs.lemmas.List.{length-replicate}
use borrow.Author.Tests.{eq-eqb}
use Rattle.csl.specs.Limits.{most_rate}
use Rattle.csl.specs.Chain.{sum_to}
use Rattle.numbers.specs.Sum.{sum_term, running_is, running_fits}
use Rattle.numbers.specs.Filled.{added_at}
use Rattle.rate_matrix.specs.Words.{at, to_of, rate_of, rate_between, row_of}
use Rattle.rate_matrix.specs.Lines.{exit_by_lines}
use Rattle.rate_matrix.specs.Sorted.{row_sum, row_zero, row_next, row_most}
use Rattle.clean_copy.specs.declared.rates.Rates.{Rates}
use Rattle.clean_copy.specs.Laid.{laid_rate, Gathered}
use Rattle.clean_copy.specs.Rates.{rate_from}

-- a number added to one of a list
added : (l : List ℕ) (s x : ℕ) → s < length l → (t : ℕ) → at (set l s (at l s + x)) t ≡ at l t + cond (eqb s t) x 0
added l s x h t = simp zero-add at (added_at l 0 s x (omega arith) t)

-- how many words a row has
part_length : (words : List ℕ) (begin end : ℕ) → begin ≤ end → end ≤ length words → length (take (end - begin) (drop begin words)) ≡ end - begin
part_length words begin end h k = length-take-le (end - begin) (drop begin words) (omega (arith, length-drop begin words))

-- how many places there are
pub clear_length : {n : ℕ} (totals : List ℕ) → totals ≡ replicate n 0 → length totals ≡ n
clear_length {n} totals e = ap length e ∙ length-replicate {A = ℕ} n 0

-- what word j adds to the rate to t
abbrev pub toward : List ℕ → ℕ → ℕ → ℕ
toward words t j = cond (eqb (to_of words j) t) (rate_of words j) 0

-- the words of a row from its begin up to j are added
pub record Adding (words : List ℕ) (n begin : ℕ) (totals : List ℕ) (j : ℕ) : Type 0 where
  pub sums : (t : ℕ) → t < n → at totals t + sum_to (toward words t) begin ≡ sum_to (toward words t) j

module _ (r : Rates) (s : ℕ) where
  -- where the row of a state begins
  pub begin_first : s ≡ 0 → 0 ≡ row_of r.rows.now (length r.rows.now) s
  begin_first e = rw e (sym (row_zero r.rows.now (length r.rows.now)))

  pub begin_next : s < r.states → (s ≡ 0 → ⊥) → at r.columns.now (r.states + (s - 1)) ≡ row_of r.rows.now (length r.rows.now) s
  begin_next h d =
      let e : suc (s - 1) ≡ s = omega arith in
      r.laid.ends (s - 1) (omega arith) ∙ ap (row_of r.rows.now (length r.rows.now)) e

  module _ (here : s < r.states) where
    -- no rate is over the limit
    rate_most : (t : ℕ) → t < r.states → rate_between r.rows.now (length r.rows.now) s t ≤ most_rate
    rate_most t l =
        omega (
          arith,
          sum_term (rate_between r.rows.now (length r.rows.now) s) t r.states l,
          exit_by_lines r.rows.now s r.states (length r.rows.now) r.laid.lines.targets,
          r.laid.lines.limit s here,
        )

    module _ (begin : ℕ) (b : begin ≡ row_of r.rows.now (length r.rows.now) s) where
      -- the row, as a part of the words
      ends : at r.columns.now (r.states + s) ≡ row_of r.rows.now (length r.rows.now) (suc s)
      ends = r.laid.ends s here

      pub row_within : begin ≤ at r.columns.now (r.states + s)
      row_within = omega (arith, ends, row_next r.rows.now (length r.rows.now) s)

      pub row_inside : at r.columns.now (r.states + s) ≤ length r.rows.now
      row_inside = omega (arith, ends, row_most r.rows.now (length r.rows.now) (suc s))

      row_is : (t : ℕ) → rate_between r.rows.now (length r.rows.now) s t + sum_to (toward r.rows.now t) begin
          ≡ sum_to (toward r.rows.now t) (at r.columns.now (r.states + s))
      unfolding rate_between
      row_is t = rw (b, ends) (row_sum r.rows.now (toward r.rows.now t) s (length r.rows.now) r.laid.in_rows)

      -- one word more is added, and all
      module _ {totals : List ℕ} {j : ℕ} (v : Adding r.rows.now r.states begin totals j) (h : j < at r.columns.now (r.states + s))
          (to : ℕ) (e : to ≡ to_of r.rows.now j) (rate : ℕ) (q : rate ≡ rate_of r.rows.now j) where
        pub target : to < r.states
        target = omega (arith, r.laid.lines.targets j (omega (arith, row_inside)))

        counted : toward r.rows.now to j ≡ rate
        counted = rw (eq-eqb (to_of r.rows.now j) to (sym e)) (sym q)

        pub add_fits : Fits w64 (at totals to + rate)
        add_fits =
            let f = running_fits (toward r.rows.now to) (at totals to) 0 begin (at r.columns.now (r.states + s)) j (2 ^ 64) (omega (arith, v.sums to target))
            (omega (arith, row_is to, rate_most to target)) h in
            omega (arith, f, counted)

        pub add_more : length totals ≡ r.states → Adding r.rows.now r.states begin (set totals to (at totals to + rate)) (j + 1)
        add_more l =
            record {
              sums = λ t k.
                  rw (added totals to rate (omega (arith, target)) t, e, q)
                  (running_is (toward r.rows.now t) (at totals t) 0 begin j (omega (arith, v.sums t k)) ∙ omega arith);
            }

      pub add_all : {totals : List ℕ} (k : ℕ) → Adding r.rows.now r.states begin totals (begin + k)
          → k ≡ length (take (at r.columns.now (r.states + s) - begin) (drop begin r.rows.now))
          → Gathered (rate_between r.rows.now (length r.rows.now) s) r.states totals
      add_all k v e =
          let j : begin + k ≡ at r.columns.now (r.states + s)
          = omega (arith, e, row_within, part_length r.rows.now begin (at r.columns.now (r.states + s)) row_within row_inside) in
          record { each = λ t l. omega (arith, row_is t, v.sums t l, ap (sum_to (toward r.rows.now t)) j) }

    -- after the row the rate to the own state
    module _ {l : List ℕ} (g : Gathered (rate_between r.rows.now (length r.rows.now) s) r.states l) where
      pub own_fits : Fits w64 (at l s + at r.columns.now (r.states + r.states + s))
      own_fits = omega (arith, g.each s here, rate_most s here, r.laid.owns s here)

      pub own_added_lem : length l ≡ r.states → Gathered (rate_from r s) r.states (set l s (at l s + at r.columns.now (r.states + r.states + s)))
      unfolding laid_rate
      own_added_lem k = record { each = λ t b. added l s (at r.columns.now (r.states + r.states + s)) (omega arith) t ∙ rw (g.each t b) refl }
