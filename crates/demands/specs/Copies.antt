-- What is asked of the writer of clean copies, of every two texts and every lent buffer. A copy is finished (csl's `Copied`) when its answer and the
-- buffer are as the request has them; that is what `clean_copy::copy` promises, with no `requires`. What is stated here holds of every finished copy.
-- Assumes nothing.
use Rattle.std.specs.Prelude.{◌≡◌, Bool, true, false, cond, ◌&&◌, ◌||◌, List, [], ◌∷◌, ◌++◌, ◌⊎◌, ℕ, ◌≤◌, ◌<◌, leb, eqb, length, take, Option, None, Some}
use Rattle.std.proofs.Math.Path.{refl, ap}
use Rattle.std.proofs.Common.{◌∙◌, sym, arith, ltb-false, lt-ltb, le-ltb}
use Rattle.std.proofs.Math.Logic.{inl, inr}
use Rattle.std.proofs.lemmas.Option.{none-some}
use Rattle.std.proofs.Math.ListN.{drop}
use Rattle.std.proofs.Math.Seq.{take_at, drop_at}
use Rattle.csl.specs.Text.{Text, every}
use Rattle.csl.specs.Moves.{moves_of}
use Rattle.csl.specs.Lent.{written}
use Rattle.csl.specs.Refusal.{test, sheet_tests, first_of}
use Rattle.csl.specs.Copy.{is_rising, copy_text, short_copy, copy_refusal, CopyAnswer, copy_refused, copied, CopiedBy, Copied}
use Rattle.accepted.specs.Order.{NoneHolds, first_none, first_found, first_after, first_number, none_left, none_right}
use Rattle.same_chain.specs.Chains.{chain_in}
use Rattle.same_chain.specs.SameRates.{EqualRates}
use Rattle.same_chain.specs.Theorems as theorems

-- the numbers that a copy may be refused with: those of "1 to 9" but 7 and 8, which are never given again, and 17
abbrev pub is_copy_number : ℕ → Bool
is_copy_number k = leb 1 k && leb k 6 || eqb k 9 || eqb k 17

differ : {A : Type 0} (k l : ℕ) (a : CopyAnswer) → a ≡ copy_refused k → a ≡ copied l → A
differ k l a h i = let z : ◌≡◌ {A = ℕ} 0 1 = cc in absurd (omega arith)

not_first : (b : Bool) → cond {A = Option ℕ} b (Some 17) None ≡ None → b ≡ false
not_first true h = absurd (none-some 17 (sym h))
not_first false h = refl

same_length : (k l : ℕ) (a : CopyAnswer) → a ≡ copied k → a ≡ copied l → k ≡ l
same_length k l a h i = cc

module _ (moves labels : Text) (before : List ℕ) (a : CopyAnswer) (after : List ℕ) (finished : Copied moves labels before a after) where
  abbrev copy : Text
  copy = copy_text moves labels

  by : CopiedBy (copy_refusal moves labels (length before)) copy before a after
  unfolding Copied
  by = finished

  -- the number of the first of "1 to 9" that holds, whatever buffer is lent; 17 where none of them holds and the buffer is too short, "tested last,
  -- with the buffer untouched"
  refused_by : (number : ℕ) → copy_refusal moves labels (length before) ≡ Some number → (a ≡ copy_refused number) × (after ≡ before)
  unfolding CopiedBy
  refused_by number h = rw h at by

  pub refused_by_the_sheet : (number : ℕ) → first_of (sheet_tests moves labels) ≡ Some number → (a ≡ copy_refused number) × (after ≡ before)
  unfolding copy_refusal
  refused_by_the_sheet number h = refused_by number (first_found (sheet_tests moves labels) _ number h)

  left : first_of (sheet_tests moves labels) ≡ None → copy_refusal moves labels (length before) ≡ first_of (test 17 (short_copy moves labels (length before)) ∷ [])
  unfolding copy_refusal
  left h = first_after (sheet_tests moves labels) _ (first_none (sheet_tests moves labels) h)

  pub refused_with_17 : first_of (sheet_tests moves labels) ≡ None → length before < length copy → (a ≡ copy_refused 17) × (after ≡ before)
  unfolding first_of
  refused_with_17 h l = refused_by 17 (left h ∙ rw (lt-ltb (length before) (length copy) l) refl)

  -- and else the copy: "It answers with the copy's length; bytes beyond are unchanged."
  pub copied_where_it_fits : first_of (sheet_tests moves labels) ≡ None → length copy ≤ length before
      → (a ≡ copied (length copy)) × (take (length copy) after ≡ copy) × (drop (length copy) after ≡ drop (length copy) before)
  unfolding first_of CopiedBy written
  copied_where_it_fits h l =
      let e : copy_refusal moves labels (length before) ≡ None = left h ∙ rw (le-ltb (length before) (length copy) l) refl in
      let k : (a ≡ copied (length copy)) × (after ≡ copy ++ drop (length copy) before) = rw e at by in (
        k.0,
        ap (take (length copy)) k.1 ∙ take_at copy (drop (length copy) before) (length copy) refl,
        ap (drop (length copy)) k.1 ∙ drop_at copy (drop (length copy) before) (length copy) refl,
      )

  -- one of the two, for all bytes and all lent lengths
  numbered : (number : ℕ) → copy_refusal moves labels (length before) ≡ Some number → is_copy_number number ≡ true
  unfolding copy_refusal sheet_tests every
  numbered number h = first_number is_copy_number (sheet_tests moves labels ++ (test 17 (short_copy moves labels (length before)) ∷ [])) number refl h

  abbrev Refused : Type 0
  Refused = (number : ℕ) × (a ≡ copy_refused number) × (is_copy_number number ≡ true) × (after ≡ before)

  abbrev Written : Type 0
  Written = (a ≡ copied (length copy)) × (after ≡ written copy before)

  either : (o : Option ℕ) → copy_refusal moves labels (length before) ≡ o → CopiedBy o copy before a after → Refused ⊎ Written
  unfolding CopiedBy
  either None e k = inr k
  either (Some number) e k = inl (number, k.0, numbered number e, k.1)

  pub one_copy_or_one_number : ((number : ℕ) × (a ≡ copy_refused number) × (is_copy_number number ≡ true) × (after ≡ before))
      ⊎ ((a ≡ copied (length copy)) × (after ≡ written copy before))
  one_copy_or_one_number = either (copy_refusal moves labels (length before)) refl by

  -- a copy is made of texts that passed alone, in a buffer that has room for it
  module _ (l : ℕ) (made : a ≡ copied l) where
    none_refused : copy_refusal moves labels (length before) ≡ None
    none_refused = go (copy_refusal moves labels (length before)) refl
      where
        go : (o : Option ℕ) → copy_refusal moves labels (length before) ≡ o → o ≡ None
        go None e = refl
        go (Some number) e = differ number l a (refused_by number e).0 made

    tested : NoneHolds (sheet_tests moves labels ++ (test 17 (short_copy moves labels (length before)) ∷ []))
    unfolding copy_refusal
    tested = first_none _ none_refused

    pub made_of_texts_that_passed : first_of (sheet_tests moves labels) ≡ None
    made_of_texts_that_passed = none_left (sheet_tests moves labels) _ tested

    fits : short_copy moves labels (length before) ≡ false
    unfolding first_of
    fits = not_first (short_copy moves labels (length before)) (none_right (sheet_tests moves labels) _ tested)

    pub length_is_that_of_the_copy : (l ≡ length copy) × (l ≤ length before) × (l ≤ length moves)
    length_is_that_of_the_copy =
        let r : length copy ≤ length before = ltb-false (length before) (length copy) fits in
        let e : l ≡ length copy = same_length l (length copy) a made (copied_where_it_fits made_of_texts_that_passed r).0 in
        (e, omega arith, omega (arith, theorems.copies_are_no_longer moves labels made_of_texts_that_passed))

    -- "Reading its output yields the same chain": the first l bytes of the buffer, as a moves text over the same labels, pass the tests, say the same
    -- chain, rise, and are their own copy
    pub what_stands_there : take l after ≡ copy
    what_stands_there =
        let r : length copy ≤ length before = ltb-false (length before) (length copy) fits in
        ap (λ (x : ℕ). take x after) length_is_that_of_the_copy.0 ∙ (copied_where_it_fits made_of_texts_that_passed r).1

    pub read_back_it_passes : first_of (sheet_tests (take l after) labels) ≡ None
    read_back_it_passes = rw what_stands_there (theorems.copies_are_accepted moves labels made_of_texts_that_passed)

    pub read_back_it_says_the_same_chain : chain_in (take l after) labels ≡ chain_in moves labels
    read_back_it_says_the_same_chain = rw what_stands_there (theorems.reading_the_copy_yields_the_same_chain moves labels made_of_texts_that_passed)

    pub its_moves_rise : is_rising (moves_of (take l after)) ≡ true
    its_moves_rise = rw what_stands_there (theorems.copies_rise moves labels made_of_texts_that_passed)

    pub it_is_its_own_copy : copy_text (take l after) labels ≡ take l after
    it_is_its_own_copy = rw what_stands_there (theorems.copy_of_a_copy moves labels made_of_texts_that_passed)

-- "two accepted move texts over the same labels have equal copies exactly when every pair has equal rate"
pub equal_copies_exactly_when_rates_are_equal : (labels a b : Text) → first_of (sheet_tests a labels) ≡ None → first_of (sheet_tests b labels) ≡ None
    → (EqualRates labels a b → copy_text a labels ≡ copy_text b labels) × (copy_text a labels ≡ copy_text b labels → EqualRates labels a b)
equal_copies_exactly_when_rates_are_equal labels a b p q = theorems.equal_copies_exactly_when_rates_are_equal labels a b p q
