-- Numbers in decimal digits, as they are written and as they are read. Assumes nothing.
use Rattle.std.specs.Prelude.{◌≡◌, Bool, true, false, not, ◌&&◌, List, [], ◌∷◌, ◌++◌, ℕ, zero, suc, ◌+◌, ◌*◌, ◌-◌, ◌/◌, ◌%◌, ◌^◌, ◌≤◌, ◌<◌, length, leb}
use Rattle.std.proofs.Math.Path.{refl}
use Rattle.std.proofs.Common.{sym, ap, ◌∙◌, append_assoc, append-nil, ⊎_elim, arith, le-leb, leb-true, ne_eqb}
use Rattle.std.proofs.Math.Bool.{and-eq-true_iff}
use Rattle.std.proofs.lemmas.Bool.{eqb-false}
use Rattle.csl.specs.Text.{Text, every}
use Rattle.csl.specs.Number.{is_digit, zero_led, is_number, value_from, value_of}
use Rattle.csl.specs.Report.{last_digit, decimal}
use Rattle.csl.proofs.Laws.Decimal.{digit_range, order, digits_one, digits_more, length_within, length_some}

pub every_append : {A : Type 0} (p : A → Bool) (s t : List A) → every p s ≡ true → every p t ≡ true → every p (s ++ t) ≡ true
unfolding every
every_append p [] t h k = k
every_append p (b ∷ s) t h k =
    let i = (and-eq-true_iff (p b) (every p s)).0 h in
    (and-eq-true_iff (p b) (every p (s ++ t))).1 (i.0, every_append p s t i.1 k)

-- what holds of one digit, and of a digit behind those of the tenth part, holds of every number
by_digits : (P : ℕ → Type 0) → ((n : ℕ) → n < 10 → P n) → ((n : ℕ) → 10 ≤ n → P (n / 10) → P n) → (k n : ℕ) → n ≤ k → P n
by_digits P one more zero n h = one n (omega arith)
by_digits P one more (suc k) n h = ⊎_elim (λ l. one n l) (λ g. more n g (by_digits P one more k (n / 10) (omega arith))) (order n)

-- bytes: what passes each digit passes each byte
module _ (p : ℕ → Bool) (h : (d : ℕ) → d < 10 → p (48 + d) ≡ true) where
  last_passes : (n : ℕ) → every p (last_digit n) ≡ true
  unfolding every
  last_passes n = rw (h (n % 10) (omega arith)) refl

  pub digits_pass : (n : ℕ) → every p (decimal n) ≡ true
  digits_pass n =
      by_digits (λ i. every p (decimal i) ≡ true) (λ i l. rw (digits_one i l) (last_passes i))
      (λ i g k. rw (digits_more i g) (every_append p (decimal (i / 10)) (last_digit i) k (last_passes i))) n n (omega arith)

digit_is : (d : ℕ) → d < 10 → is_digit (48 + d) ≡ true
digit_is d h = (and-eq-true_iff (leb 48 (48 + d)) (leb (48 + d) 57)).1 (le-leb 48 (48 + d) (omega arith), le-leb (48 + d) 57 (omega arith))

-- the value of what is written
value_append : (v : ℕ) (s t : Text) → value_from v (s ++ t) ≡ value_from (value_from v s) t
unfolding value_from
value_append v [] t = refl
value_append v (b ∷ s) t = value_append (v * 10 + (b - 48)) s t

last_value : (v n : ℕ) → value_from v (last_digit n) ≡ v * 10 + n % 10
unfolding value_from
last_value v n = omega arith

pub value_decimal : (n : ℕ) → value_of (decimal n) ≡ n
value_decimal n =
    by_digits (λ i. value_of (decimal i) ≡ i) (λ i l. ap value_of (digits_one i l) ∙ last_value 0 i ∙ omega arith)
    (λ i g k. ap value_of (digits_more i g) ∙ value_append 0 (decimal (i / 10)) (last_digit i) ∙ last_value (value_of (decimal (i / 10))) i ∙ omega (arith, k))
    n n (omega arith)

-- what is written is a number: its first digit is not 0, but for 0 itself
record Led (s : Text) : Type 0 where
  pub first : ℕ
  pub rest : Text
  pub is : s ≡ first ∷ rest
  pub some : first ≡ 48 → ⊥

led_decimal : (n : ℕ) → 1 ≤ n → Led (decimal n)
led_decimal n =
    by_digits (λ i. 1 ≤ i → Led (decimal i)) (λ i l o. record { first = 48 + i % 10; rest = []; is = digits_one i l; some = λ z. omega arith })
    (λ i g k o.
    let x : Led (decimal (i / 10)) = k (omega arith) in
    record { first = x.first; rest = x.rest ++ last_digit i; is = digits_more i g ∙ ap (λ (t : Text). t ++ last_digit i) x.is; some = x.some })
    n n (omega arith)

led_zero : (s : Text) → Led s → zero_led s ≡ false
unfolding zero_led
led_zero s h = rw h.is (go h.rest)
  where
    go : (t : Text) → zero_led (h.first ∷ t) ≡ false
    go [] = refl
    go (b ∷ t) = ne_eqb h.first 48 h.some

not_zero_led : (n : ℕ) → zero_led (decimal n) ≡ false
unfolding zero_led
not_zero_led zero = rw (digits_one 0 (omega arith)) refl
not_zero_led (suc n) = led_zero (decimal (suc n)) (led_decimal (suc n) (omega arith))

pub decimal_number : (k n : ℕ) → n < 10 ^ suc k → is_number (suc k) (decimal n) ≡ true
unfolding is_number
decimal_number k n h =
    let a : every is_digit (decimal n) ≡ true = digits_pass is_digit digit_is n in
    let b : leb 1 (length (decimal n)) ≡ true = le-leb 1 _ (length_some n) in
    let c : leb (length (decimal n)) (suc k) ≡ true = le-leb _ (suc k) (length_within k n h) in
    rw (a, b, c, not_zero_led n) refl

-- and a number is what is written of its value
-- one digit, with nothing before it
first_digit : (b : ℕ) → is_digit b ≡ true → decimal (0 * 10 + (b - 48)) ≡ b ∷ []
first_digit b h =
    let r : (48 ≤ b) × (b ≤ 57) = digit_range b h in
    let e : 48 + (0 * 10 + (b - 48)) % 10 ≡ b = omega arith in
    digits_one (0 * 10 + (b - 48)) (omega arith) ∙ rw e refl

-- and with a number before it
next_digit : (v b : ℕ) → 1 ≤ v → is_digit b ≡ true → decimal (v * 10 + (b - 48)) ≡ decimal v ++ (b ∷ [])
next_digit v b o h =
    let r : (48 ≤ b) × (b ≤ 57) = digit_range b h in
    let x : (v * 10 + (b - 48)) / 10 ≡ v = omega arith in
    let y : 48 + (v * 10 + (b - 48)) % 10 ≡ b = omega arith in
    digits_more (v * 10 + (b - 48)) (omega arith) ∙ rw (x, y) refl

decimal_from : (s : Text) (v : ℕ) → 1 ≤ v → every is_digit s ≡ true → decimal (value_from v s) ≡ decimal v ++ s
unfolding value_from every
decimal_from [] v o h = sym (append-nil (decimal v))
decimal_from (b ∷ s) v o h =
    let i = (and-eq-true_iff (is_digit b) (every is_digit s)).0 h in
    decimal_from s (v * 10 + (b - 48)) (omega arith) i.1
    ∙ ap (λ (t : Text). t ++ s) (next_digit v b o i.0) ∙ append_assoc (decimal v) (b ∷ []) s

pub record Number (most : ℕ) (s : Text) : Type 0 where
  pub digits : every is_digit s ≡ true
  pub some : 1 ≤ length s
  pub few : length s ≤ most
  pub led : zero_led s ≡ false

pub number_is : (most : ℕ) (s : Text) → is_number most s ≡ true → Number most s
unfolding is_number
number_is most s h =
    let i = (and-eq-true_iff (every is_digit s && leb 1 (length s) && leb (length s) most) (not (zero_led s))).0 h in
    let j = (and-eq-true_iff (every is_digit s && leb 1 (length s)) (leb (length s) most)).0 i.0 in
    let k = (and-eq-true_iff (every is_digit s) (leb 1 (length s))).0 j.0 in
    record { digits = k.0; some = leb-true 1 _ k.1; few = leb-true _ most j.1; led = not_true (zero_led s) i.1 }
  where
    not_true : (b : Bool) → not b ≡ true → b ≡ false
    not_true false h = refl
    not_true true h = sym h

decimal_value : (s : Text) → every is_digit s ≡ true → 1 ≤ length s → zero_led s ≡ false → decimal (value_of s) ≡ s
unfolding value_from every zero_led
decimal_value [] h o z = absurd (omega arith)
decimal_value (b ∷ []) h o z = first_digit b ((and-eq-true_iff (is_digit b) true).0 h).0
decimal_value (b ∷ c ∷ s) h o z =
    let i = (and-eq-true_iff (is_digit b) (every is_digit (c ∷ s))).0 h in
    let r : (48 ≤ b) × (b ≤ 57) = digit_range b i.0 in
    let d : b ≡ 48 → ⊥ = eqb-false b 48 z in
    decimal_from (c ∷ s) (0 * 10 + (b - 48)) (omega arith) i.1 ∙ ap (λ (t : Text). t ++ (c ∷ s)) (first_digit b i.0)

pub number_written : (most : ℕ) (s : Text) → is_number most s ≡ true → decimal (value_of s) ≡ s
number_written most s h = let k = number_is most s h in decimal_value s k.digits k.some k.led
