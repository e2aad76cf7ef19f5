-- Laws of the decimal digits of a number. Assumes nothing.
use Rattle.std.specs.Prelude.{◌≡◌, refl, Bool, true, false, not, ◌&&◌, [], ◌∷◌, ◌++◌, ◌⊎◌, ℕ, zero, suc, ◌+◌, ◌*◌, ◌-◌, ◌/◌, ◌^◌, ◌≤◌, ◌<◌, length, leb, ltb}
use Rattle.std.proofs.Common.{sym, ap, ◌∙◌, inl, inr, ⊎_elim, pow-suc, mul-le-mul_right, arith, length-append, leb-true, lt-ltb, le-ltb, ltb-true, ltb-false}
use Rattle.std.proofs.Math.Bool.{and-eq-true_iff}
use Rattle.std.proofs.Math.Nat.{pow-le-pow_right}
use Rattle.csl.specs.Text.{Text, every}
use Rattle.csl.specs.Number.{is_digit, zero_led, is_number, value_from, value_of}
use Rattle.csl.specs.Report.{decimal, decimal_in, last_digit}

-- a digit is a byte from 48 to 57
pub digit_range : (b : ℕ) → is_digit b ≡ true → (48 ≤ b) × (b ≤ 57)
digit_range b h =
    let p = (and-eq-true_iff (leb 48 b) (leb b 57)).0 h in
    (leb-true 48 b p.0, leb-true b 57 p.1)

-- a number of n digits is below 10 ^ n
value_below : (v : ℕ) (d : Text) → every is_digit d ≡ true → value_from v d < (v + 1) * 10 ^ length d
unfolding every value_from
value_below v [] h = omega arith
value_below v (b ∷ d) h =
    let p = (and-eq-true_iff (is_digit b) (every is_digit d)).0 h in
    let r = digit_range b p.0 in
    let q : v * 10 + (b - 48) + 1 ≤ (v + 1) * 10 = omega arith in
    rw (pow-suc 10 (length d)) (omega (arith, value_below (v * 10 + (b - 48)) d p.1, mul-le-mul_right (10 ^ length d) q))

pub number_facts : (most : ℕ) (d : Text) → is_number most d ≡ true → (every is_digit d ≡ true) × (length d ≤ most)
unfolding is_number
number_facts most d h =
    let p = (and-eq-true_iff (every is_digit d && leb 1 (length d) && leb (length d) most) (not (zero_led d))).0 h in
    let q = (and-eq-true_iff (every is_digit d && leb 1 (length d)) (leb (length d) most)).0 p.0 in
    let r = (and-eq-true_iff (every is_digit d) (leb 1 (length d))).0 q.0 in
    (r.0, leb-true (length d) most q.1)

pub number_below : (most : ℕ) (d : Text) → is_number most d ≡ true → value_of d < 10 ^ most
number_below most d h =
    let f = number_facts most d h in
    omega (arith, value_below 0 d f.0, pow-le-pow_right {n = 10} (omega arith) f.1)

-- below 10 or not
pub order : (n : ℕ) → (n < 10) ⊎ (10 ≤ n)
order n = go (ltb n 10) refl where
  go : (b : Bool) → ltb n 10 ≡ b → (n < 10) ⊎ (10 ≤ n)
  go true e = inl (ltb-true n 10 e)
  go false e = inr (ltb-false n 10 e)

-- a number below 10 has one digit, whatever the steps
pub steps_low : (k n : ℕ) → n < 10 → decimal_in k n ≡ last_digit n
unfolding decimal_in
steps_low zero n h = refl
steps_low (suc k) n h = rw (decimal_in, lt-ltb n 10 h)

-- one step of any other
pub steps_high : (k n : ℕ) → 10 ≤ n → decimal_in (suc k) n ≡ decimal_in k (n / 10) ++ last_digit n
unfolding decimal_in
steps_high k n h = rw (decimal_in, le-ltb n 10 h)

-- the steps do not matter once there are enough of them
pub steps_enough : (k j n : ℕ) → n ≤ k → n ≤ j → decimal_in k n ≡ decimal_in j n
steps_enough zero j n h i = steps_low zero n (omega arith) ∙ sym (steps_low j n (omega arith))
steps_enough (suc k) zero n h i = steps_low (suc k) n (omega arith) ∙ sym (steps_low zero n (omega arith))
steps_enough (suc k) (suc j) n h i =
    ⊎_elim (λ l. steps_low (suc k) n l ∙ sym (steps_low (suc j) n l))
    (λ g. steps_high k n g ∙ rw (steps_enough k j (n / 10) (omega arith) (omega arith)) (sym (steps_high j n g)))
    (order n)

-- one digit
pub digits_one : (n : ℕ) → n < 10 → decimal n ≡ last_digit n
unfolding decimal
digits_one n h = steps_low n n h

-- more: those of the tenth part, and the last one
pub digits_more : (n : ℕ) → 10 ≤ n → decimal n ≡ decimal (n / 10) ++ last_digit n
unfolding decimal
digits_more zero h = absurd (omega arith)
digits_more (suc n) h =
    steps_high n (suc n) h
    ∙ ap (λ t. t ++ last_digit (suc n)) (steps_enough n (suc n / 10) (suc n / 10) (omega arith) (omega arith))

-- how many
pub length_one : (n : ℕ) → n < 10 → length (decimal n) ≡ 1
length_one n h = ap length (digits_one n h)

pub length_more : (n : ℕ) → 10 ≤ n → length (decimal n) ≡ length (decimal (n / 10)) + 1
length_more n h = ap length (digits_more n h) ∙ length-append (decimal (n / 10)) (last_digit n)

-- a number below 10 ^ k has at most k digits
pub length_within : (k n : ℕ) → n < 10 ^ suc k → length (decimal n) ≤ suc k
length_within zero n h = omega (arith, length_one n (omega arith))
length_within (suc k) n h =
    ⊎_elim (λ l. omega (arith, length_one n l))
    (λ g. omega (arith, length_more n g, length_within k (n / 10) (omega (arith, pow-suc 10 (suc k)))))
    (order n)

-- at least one
pub length_some : (n : ℕ) → 1 ≤ length (decimal n)
length_some n = ⊎_elim (λ l. omega (arith, length_one n l)) (λ g. omega (arith, length_more n g)) (order n)
