-- A quotient from its whole part and from what is left: each step fits 64 bits. Assumes nothing.
use mathlib.Core.Path.{◌≡◌, sym}
use Prim.Native.Nat.{ℕ, ◌+◌, ◌*◌, ◌/◌, ◌%◌, ◌<◌}
use native.Mathlib.Omega.{arith}
use native.Mathlib.Nat.{div-add-mod', mod-lt, lt_of_mul-lt-mul_right}
use mir.Val.{Fits}
use mir.Syntax.{w64}
use Rattle.numbers.specs.Hint.{eq_times, div_is}
use Rattle.bounds.specs.Unit.{scale}
use Rattle.weights.specs.Asked.{Over, Share}

-- what the code adds up
abbrev whole : ℕ → ℕ → ℕ
whole g t = g / t * scale + g % t * scale / t

over_whole : (g t : ℕ) → g * scale ≡ whole g t * t + g % t * scale % t
over_whole g t = omega (arith, eq_times scale (div-add-mod' g t), div-add-mod' (g % t * scale) t)

module _ {g t : ℕ} (p : Over g t) where
  pub over_is : whole g t ≡ g * scale / t
  over_is =
      sym (div_is (whole g t) (g * scale) t (omega (arith, over_whole g t)) (omega (arith, over_whole g t, mod-lt (g % t * scale) p.some)))

  pub over_fits : Fits w64 (whole g t)
  over_fits = record { fits = lt_of_mul-lt-mul_right t (omega (arith, over_whole g t, p.fits)) }

pub ruleset over_laws = (over_is, over_fits)

-- the share in two digits
abbrev digits : ℕ → ℕ → ℕ
digits rest t = rest * 256 / t * 256 + rest * 256 % t * 256 / t

module _ {rest t : ℕ} (p : Share rest t) where
  some : 0 < t
  some = omega (arith, p.less)

  digits_whole : rest * scale ≡ digits rest t * t + rest * 256 % t * 256 % t
  digits_whole =
      omega (arith, eq_times 256 (div-add-mod' (rest * 256) t), div-add-mod' (rest * 256 % t * 256) t)

  pub share_is : digits rest t ≡ rest * scale / t
  share_is =
      sym
      (div_is (digits rest t) (rest * scale) t (omega (arith, digits_whole))
      (omega (arith, digits_whole, mod-lt (rest * 256 % t * 256) some)))
