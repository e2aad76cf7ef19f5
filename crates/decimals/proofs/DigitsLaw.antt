-- How many digits a number has, and how they are written: one digit, or those of its tenth part and one more. Assumes nothing.
use Rattle.std.specs.Prelude.{◌≡◌, List, [], ◌∷◌, ℕ, zero, suc, ◌+◌, ◌*◌, ◌/◌, ◌%◌, ◌^◌, ◌≤◌, ◌<◌, max, length}
use Rattle.std.proofs.Common.{arith, pow-suc}
use Rattle.csl.specs.Report.{decimal}
use Rattle.decimals.specs.Place.{Room, Wrote}
use Rattle.decimals.specs.Writing.{wrote_more}
use Rattle.csl.proofs.Laws.Decimal.{digits_one, digits_more, length_one, length_more}

-- how many digits a number has that lies from one power of 10 to below the next
digits_between : (k n : ℕ) → 10 ^ k ≤ n → n < 10 * 10 ^ k → length (decimal n) ≡ k + 1
digits_between zero n h l = length_one n (omega arith)
digits_between (suc k) n h l =
    let p = pow-suc 10 k in
    let q : 0 < 10 ^ k = omega (arith, p) in
    omega (arith, p, length_more n (omega (arith, p)), digits_between k (n / 10) (omega (arith, p)) (omega (arith, p)))

-- and 0, which has as many as 1
pub digits_by_power : (k n : ℕ) {m : ℕ} → m ≡ max n 1 → 10 ^ k ≤ m → m < 10 * 10 ^ k → k + 1 ≡ length (decimal n)
digits_by_power k zero e h l = omega (arith, digits_between k 1 (omega (arith, e)) (omega (arith, e)), length_one 0 (omega arith), length_one 1 (omega arith))
digits_by_power k (suc n) e h l = omega (arith, digits_between k (suc n) (omega (arith, e)) (omega (arith, e)))

pub one_digit : {at x r : ℕ} (n : ℕ) {old new : List ℕ} → n < 10 → x ≡ 48 + n % 10 → Wrote at (x ∷ []) old new r → Wrote at (decimal n) old new r
one_digit n h e w = rw (digits_one n h, ← e) w

pub more_digits : {at x m r : ℕ} (n : ℕ) {old mid new : List ℕ} → 10 ≤ n → Room at (decimal n) old → x ≡ 48 + n % 10
    → Wrote at (decimal (n / 10)) old mid m → Wrote m (x ∷ []) mid new r → Wrote at (decimal n) old new r
more_digits n h room e w v = rw (digits_more n h, ← e) (wrote_more (omega (arith, length_more n h)) w v)
