-- The digits at the start of a text, counted one by one. Assumes nothing.
use Rattle.std.specs.Prelude.{◌≡◌, refl, ℕ, zero, suc, ◌+◌, ◌*◌, ◌-◌, ◌^◌, ◌≤◌, ◌<◌, true, false, [], ◌∷◌, get_or, drop}
use Rattle.std.proofs.Math.Path.{ap}
use Rattle.std.proofs.Common.{arith, add-one, drop-cons}
use Rattle.std.proofs.Math.Nat.{pow-suc, pow-le-pow_right}
use Rattle.std.proofs.lemmas.Bool.{false≢true}
use Rattle.std.proofs.Math.ListN.{length}
use Rattle.csl.specs.Text.{Text}
use Rattle.csl.specs.Number.{is_digit, value_from, value_of}
pub use Rattle.csl.proofs.Laws.Decimal.{digit_range}
use Rattle.texts.specs.Digits.{digit_run}

-- `used` of the digits at the start of s are counted, and spell `value`
pub record Counting (s : Text) (value used : ℕ) : Type 0 where
  pub length_is : used + length (digit_run (drop used s)) ≡ length (digit_run s)
  pub value_is : value_from value (digit_run (drop used s)) ≡ value_of (digit_run s)
  pub small : value < 10 ^ used

-- all of them are counted
pub record Counted (s : Text) (value used : ℕ) : Type 0 where
  pub length_is : used ≡ length (digit_run s)
  pub value_is : value ≡ value_of (digit_run s)

pub none_counted : (s : Text) → Counting s 0 0
none_counted s = record { length_is = omega arith; value_is = refl; small = omega arith }

-- behind the last byte stands no digit
pub no_digit : (s : Text) (i : ℕ) → length s ≤ i → is_digit (get_or s i 0) ≡ false
no_digit [] i h = refl
no_digit (b ∷ s) zero h = absurd (omega arith)
no_digit (b ∷ s) (suc i) h = no_digit s i (omega arith)

pub digit_within : (s : Text) (i : ℕ) → is_digit (get_or s i 0) ≡ true → i < length s
digit_within [] i h = absurd (false≢true h)
digit_within (b ∷ s) zero h = omega arith
digit_within (b ∷ s) (suc i) h = omega (arith, digit_within s i h)

-- the digits from a place on: one and those behind it, or none
run_more : (s : Text) (i : ℕ) → is_digit (get_or s i 0) ≡ true → digit_run (drop i s) ≡ get_or s i 0 ∷ digit_run (drop (i + 1) s)
unfolding digit_run
run_more s i h = rw (add-one i, drop-cons s i 0 (digit_within s i h), h)

run_ends : (s : Text) (i : ℕ) → is_digit (get_or s i 0) ≡ false → digit_run (drop i s) ≡ []
unfolding digit_run
run_ends [] zero h = refl
run_ends [] (suc i) h = refl
run_ends (b ∷ s) zero h = rw h
run_ends (b ∷ s) (suc i) h = run_ends s i h

module _ {s : Text} {value used : ℕ} (c : Counting s value used) where
  pub one_more : is_digit (get_or s used 0) ≡ true → Counting s (value * 10 + (get_or s used 0 - 48)) (used + 1)
  unfolding value_from
  one_more h =
      let d = digit_range (get_or s used 0) h in
      record {
        length_is = omega (arith, c.length_is, ap length (run_more s used h));
        value_is = rw (run_more s used h) at c.value_is;
        small = rw (add-one used, pow-suc 10 used) (omega (arith, c.small));
      }

  pub counted : is_digit (get_or s used 0) ≡ false → Counted s value used
  unfolding value_from
  counted h =
      record {
        length_is = omega (arith, c.length_is, ap length (run_ends s used h));
        value_is = rw (run_ends s used h) at c.value_is;
      }

  pub fits : (most : ℕ) → used ≤ most → value < 10 ^ most
  fits most h = omega (arith, c.small, pow-le-pow_right {n = 10} (omega arith) h)
