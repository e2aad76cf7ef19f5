-- The copy of a text that passed the tests of sheets passes them too, says the same chain, and is no longer. Assumes nothing.
use Rattle.std.specs.Prelude.{◌≡◌, Bool, true, cond, ◌&&◌, ◌||◌, List, [], ◌∷◌, ℕ, ◌^◌, ◌≤◌, ◌<◌, leb, None}
use Rattle.std.proofs.Math.Path.{refl}
use Rattle.std.proofs.Common.{sym, ap, subst, ◌∙◌, arith}
use Rattle.std.proofs.Math.Bool.{false, and-eq-true_iff}
use Rattle.std.proofs.Math.ListN.{length}
use Rattle.std.proofs.Math.Dec.{eqb, ltb}
use borrow.Author.Tests.{ne_eqb, ltb-false, le-ltb, lt-leb, not-false}
use Rattle.csl.specs.Text.{Text, any}
use Rattle.csl.specs.Limits.{sheet_bytes, most_moves, most_rate}
use Rattle.csl.specs.Labels.{labels_head, states_of}
use Rattle.csl.specs.Moves.{Move, moves_head, moves_layout, moves_of, rate_in, rates_out}
use Rattle.csl.specs.Chain.{chain_of}
use Rattle.csl.specs.Refusal.{out_of_bytes, broken_layout, wrong_first_line, many_moves, strange_state, wrong_rate, sheet_tests, first_of}
use Rattle.csl.specs.Copy.{moves_text, is_rising, pairs_below, copy_of, copy_text}
use Rattle.numbers.specs.Sum.{sum_cong}
use Rattle.accepted.specs.Order.{neither, NoneHolds, first_none, none_first}
use Rattle.accepted.specs.Rates.{Within, Moving, rates_by_lines}
use Rattle.accepted.specs.Sheet.{SheetPassed, sheet_passed}
use Rattle.same_chain.specs.MovesText.{moves_read, head_read, Short, layout_read, text_written}
use Rattle.same_chain.specs.Pairs.{Every, every_weaker, IsPair, are_pairs, pairs_rate, pairs_rise}
use Rattle.same_chain.specs.Rising.{only_rising}
use Rattle.same_chain.specs.Cost.{pairs_few, pairs_short}
use Rattle.same_chain.specs.Chains.{chain_in, same_everywhere, same_below}

-- what holds of each move, as the definitions have it
within_by : (rate : ℕ → ℕ → ℕ) (n : ℕ) (l : List Move) → Every (IsPair rate n) l → Within n l
unfolding Every Within
within_by rate n [] h = tt
within_by rate n (m ∷ l) h = (h.0.from_in, h.0.to_in, within_by rate n l h.1)

moving_by : (rate : ℕ → ℕ → ℕ) (n : ℕ) (l : List Move) → Every (IsPair rate n) l → Moving l
unfolding Every Moving
moving_by rate n [] h = tt
moving_by rate n (m ∷ l) h = let d : m.rate ≡ 0 → ⊥ = h.0.some in (omega arith, moving_by rate n l h.1)

short_by : (l : List Move) → Every (λ m. (m.from < 10 ^ 9) × (m.to < 10 ^ 9) × (m.rate < 10 ^ 9)) l → Short l
unfolding Every Short
short_by [] h = tt
short_by (m ∷ l) h = (h.0.0, h.0.1, h.0.2, short_by l h.1)

any_none : (p : Move → Bool) (l : List Move) → Every (λ m. p m ≡ false) l → any p l ≡ false
unfolding any Every
any_none p [] h = refl
any_none p (m ∷ l) h = rw (h.0, any_none p l h.1) refl

either_no : (a b : Bool) → a ≡ false → b ≡ false → (a || b) ≡ false
either_no a b h k = rw (h, k) refl

-- a pair's rate is part of its state's total
one_rate : (x y : Bool) (r : ℕ) → cond (x && y) r 0 ≤ cond x r 0
one_rate true true r = omega arith
one_rate true false r = omega arith
one_rate false y r = omega arith

rate_least : (ms : List Move) (s t : ℕ) → rate_in ms s t ≤ rates_out ms s
unfolding rate_in rates_out
rate_least [] s t = omega arith
rate_least (m ∷ ms) s t = omega (arith, rate_least ms s t, one_rate (eqb m.from s) (eqb m.to t) m.rate)

-- the heads of texts that passed; and a moves text that passed is what is written of its moves
heads : (moves labels : Text) → first_of (sheet_tests moves labels) ≡ None → (moves_head moves ≡ true) × (labels_head labels ≡ true)
unfolding sheet_tests NoneHolds wrong_first_line
heads moves labels h =
    let t : NoneHolds (sheet_tests moves labels) = first_none (sheet_tests moves labels) h in
    (and-eq-true_iff (moves_head moves) (labels_head labels)).0 (not-false _ t.1.1.0)

as_written : (moves labels : Text) → first_of (sheet_tests moves labels) ≡ None → moves_text (moves_of moves) ≡ moves
as_written moves labels h = text_written moves (sheet_passed moves labels h).moves_layout_lem (heads moves labels h).0

module _ (moves labels : Text) (passed : first_of (sheet_tests moves labels) ≡ None) where
  abbrev n : ℕ
  n = states_of labels

  abbrev ms : List Move
  ms = moves_of moves

  abbrev copy : Text
  copy = copy_text moves labels

  abbrev pairs : List Move
  pairs = pairs_below (rate_in ms) n n

  kept : SheetPassed moves labels
  kept = sheet_passed moves labels passed

  tests : NoneHolds (sheet_tests moves labels)
  tests = first_none (sheet_tests moves labels) passed

  are : Every (IsPair (rate_in ms) n) pairs
  are = are_pairs (rate_in ms) n

  -- it has the chain's pairs
  copy_written : copy ≡ moves_text pairs
  unfolding copy_of chain_of
  copy_written = refl

  copy_moves : moves_of copy ≡ pairs
  copy_moves = ap moves_of copy_written ∙ moves_read pairs

  pairs_within : Within n pairs
  pairs_within = within_by (rate_in ms) n pairs are

  copy_within : Within n (moves_of copy)
  copy_within = rw copy_moves pairs_within

  pub copy_rates : (s t : ℕ) → rate_in (moves_of copy) s t ≡ rate_in ms s t
  copy_rates =
      same_below n (moves_of copy) ms copy_within kept.sound.within (λ s t l k. rw copy_moves (pairs_rate (rate_in ms) n n s t l k))

  -- "Reading its output yields the same chain"
  pub copy_chain : chain_in copy labels ≡ chain_in moves labels
  copy_chain = same_everywhere copy moves labels copy_rates

  pub copy_of_copy : copy_text copy labels ≡ copy
  copy_of_copy = ap copy_of copy_chain

  pub copy_rises : is_rising (moves_of copy) ≡ true
  copy_rises = rw copy_moves (pairs_rise (rate_in ms) n n)

  pub copy_short : length copy ≤ length moves
  copy_short =
      omega (arith, ap length copy_written, pairs_short ms n kept.sound.within kept.sound.moving, ap length (as_written moves labels passed))

  -- a text that rises is its own copy: there is one such text for a chain
  pub rising_is_the_copy : (b : Text) → first_of (sheet_tests b labels) ≡ None → is_rising (moves_of b) ≡ true
      → ((s t : ℕ) → rate_in (moves_of b) s t ≡ rate_in ms s t) → b ≡ copy
  rising_is_the_copy b p r h =
      let k : SheetPassed b labels = sheet_passed b labels p in
      sym (as_written b labels p)
      ∙ ap moves_text (only_rising (moves_of b) pairs r (pairs_rise (rate_in ms) n n) k.sound.moving (moving_by (rate_in ms) n pairs are)
      (λ s t. h s t ∙ sym (copy_rates s t) ∙ ap (λ (l : List Move). rate_in l s t) copy_moves))
      ∙ sym copy_written

  -- each test of the copy
  copy_some : 0 < length copy
  unfolding moves_text
  copy_some = rw copy_written (omega arith)

  sizes : (out_of_bytes sheet_bytes copy || out_of_bytes sheet_bytes labels) ≡ false
  unfolding sheet_tests NoneHolds
  sizes =
      let i = neither (out_of_bytes sheet_bytes moves) (out_of_bytes sheet_bytes labels) tests.0 in
      let j = neither (eqb (length moves) 0) (ltb sheet_bytes (length moves)) i.0 in
      let m : length moves ≤ sheet_bytes = ltb-false _ _ j.1 in
      let a : eqb (length copy) 0 ≡ false = ne_eqb (length copy) 0 (λ z. omega (arith, copy_some)) in
      let b : ltb sheet_bytes (length copy) ≡ false = le-ltb sheet_bytes (length copy) (omega (arith, copy_short)) in
      either_no (out_of_bytes sheet_bytes copy) (out_of_bytes sheet_bytes labels) (either_no _ _ a b) i.1

  short : Short pairs
  short =
      short_by pairs
      (every_weaker (IsPair (rate_in ms) n) _
      (λ m p. (
        omega (arith, p.from_in, kept.sound.few_states),
        omega (arith, p.to_in, kept.sound.few_states),
        omega (arith, p.is, rate_least ms m.from m.to, kept.sound.slow m.from),
      ))
      pairs are)

  layout : moves_layout copy ≡ true
  layout = rw copy_written (layout_read pairs short)

  head : moves_head copy ≡ true
  head = rw copy_written (head_read pairs)

  few : ltb most_moves (length (moves_of copy)) ≡ false
  few = rw copy_moves (le-ltb most_moves (length pairs) (omega (arith, pairs_few ms n kept.sound.within kept.sound.moving, kept.sound.few_moves)))

  known : strange_state n (moves_of copy) ≡ false
  known =
      rw copy_moves
      (any_none (λ m. leb n m.from || leb n m.to) pairs
      (every_weaker (IsPair (rate_in ms) n) _ (λ m p. either_no _ _ (lt-leb n m.from p.from_in) (lt-leb n m.to p.to_in)) pairs are))

  totals : (s : ℕ) → rates_out (moves_of copy) s ≤ most_rate
  totals s =
      omega (
        arith,
        rates_by_lines (moves_of copy) s n copy_within,
        sum_cong (rate_in (moves_of copy) s) (rate_in ms s) n (λ t l. copy_rates s t),
        rates_by_lines ms s n kept.sound.within,
        kept.sound.slow s,
      )

  rates : wrong_rate (moves_of copy) ≡ false
  rates =
      any_none (λ m. eqb m.rate 0 || ltb most_rate (rates_out (moves_of copy) m.from)) (moves_of copy)
      (subst (λ l. Every (λ m. (eqb m.rate 0 || ltb most_rate (rates_out (moves_of copy) m.from)) ≡ false) l) (sym copy_moves)
      (every_weaker (IsPair (rate_in ms) n) _
      (λ m p. either_no (eqb m.rate 0) (ltb most_rate (rates_out (moves_of copy) m.from)) (ne_eqb m.rate 0 p.some) (le-ltb most_rate _ (totals m.from)))
      pairs are))

  pub copy_passes : first_of (sheet_tests copy labels) ≡ None
  unfolding sheet_tests NoneHolds broken_layout wrong_first_line many_moves
  copy_passes =
      none_first (sheet_tests copy labels)
      (sizes, (rw (layout, kept.labels_layout_lem) refl, (rw (head, (heads moves labels passed).1) refl, (tests.1.1.1.0, (few, (known, (rates, tt)))))))
