-- What the functions of `division` ask and promise. Assumes nothing.
use Rattle.std.specs.Prelude.{ℕ, ◌*◌, ◌^◌, ◌<◌}

-- a product in two digits
pub record MulDiv (w x y : ℕ) : Type 0 where
  pub narrow : w < 2 ^ 42
  pub factor : x < 2 ^ 36
  pub some : 0 < y
  pub divisor : y < 2 ^ 37
  pub fits : w * x < 2 ^ 64 * y
