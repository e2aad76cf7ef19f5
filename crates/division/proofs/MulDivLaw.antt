-- The two-digit quotient: each step fits 64 bits, and the result is the quotient of the whole product. Assumes nothing.
use mathlib.Core.Path.{◌≡◌, sym}
use Prim.Native.Nat.{ℕ, ◌+◌, ◌*◌, ◌/◌, ◌%◌}
use native.Mathlib.Omega.{arith}
use native.Mathlib.Nat.{div-add-mod', mod-lt, lt_of_mul-lt-mul_right}
use mir.Val.{Fits}
use mir.Syntax.{w64}
use Rattle.numbers.specs.Hint.{eq_times, div_is}
use Rattle.division.specs.Contract.{MulDiv}

-- the names of the code
abbrev pub q1 : ℕ → ℕ → ℕ → ℕ
q1 w x y = w / 2097152 * x / y

abbrev pub r1 : ℕ → ℕ → ℕ → ℕ
r1 w x y = w / 2097152 * x % y

abbrev pub t0 : ℕ → ℕ → ℕ → ℕ
t0 w x y = r1 w x y * 2097152 + w % 2097152 * x

abbrev pub res : ℕ → ℕ → ℕ → ℕ
res w x y = q1 w x y * 2097152 + t0 w x y / y

-- the whole product, in terms of the result
whole : (w x y : ℕ) → w * x ≡ res w x y * y + t0 w x y % y
whole w x y =
    omega (
      arith,
      eq_times x (div-add-mod' w 2097152),
      eq_times 2097152 (div-add-mod' (w / 2097152 * x) y),
      div-add-mod' (t0 w x y) y,
    )

pub is_quotient : {w x y : ℕ} → MulDiv w x y → res w x y ≡ w * x / y
is_quotient {w} {x} {y} p =
    sym (div_is (res w x y) (w * x) y (omega (arith, whole w x y)) (omega (arith, whole w x y, mod-lt (t0 w x y) p.some)))

pub res_fits : {w x y : ℕ} → MulDiv w x y → Fits w64 (res w x y)
res_fits {w} {x} {y} p = record { fits = lt_of_mul-lt-mul_right y (omega (arith, whole w x y, p.fits)) }

pub q1_fits : {w x y : ℕ} → MulDiv w x y → Fits w64 (q1 w x y * 2097152)
q1_fits p = omega (arith, res_fits p)

pub ruleset muldiv_laws = (q1_fits, res_fits, is_quotient)
