-- The chain: exit rates, the uniformisation rate q, loads and depths. Assumes nothing.
use Rattle.std.specs.Prelude.{ℕ, zero, suc, ◌+◌, ◌*◌, max, Bool, cond, eqb}
use Rattle.csl.specs.Text.{Text}
use Rattle.csl.specs.Limits.{rate_hundredths, spare_steps}
use Rattle.csl.specs.Labels.{place_of}
use Rattle.csl.specs.Moves.{rate_in}
use Rattle.csl.specs.Sheet.{Sheet}
use Rattle.csl.specs.Fraction.{Fraction, frac, round_up}

-- how many states; the rate from one state to another; whether a label holds at a state
pub record Chain : Type 0 where
  pub states : ℕ
  pub rate : ℕ → ℕ → ℕ
  pub mark : Text → ℕ → Bool

-- the chain of a sheet
unfoldable pub chain_of : Sheet → Chain
chain_of sheet =
    record { states = sheet.states; rate = rate_in sheet.moves; mark = λ w s. sheet.marked s (place_of sheet.names w) }

-- the sum, and the greatest, of f 0 to f (n - 1)
unfoldable pub sum_to : (ℕ → ℕ) → ℕ → ℕ
sum_to f zero = 0
sum_to f (suc n) = sum_to f n + f n

unfoldable pub greatest : (ℕ → ℕ) → ℕ → ℕ
greatest f zero = 0
greatest f (suc n) = max (greatest f n) (f n)

-- the rate from s to another state t
unfoldable pub away : Chain → ℕ → ℕ → ℕ
away c s t = cond (eqb s t) 0 (c.rate s t)

-- "The exit rate of a state is the sum of the rates out of it." Of moves to the own state: "Until leaves them out of exit rates and q." (`Next`
-- has the exit rate that counts them.)
unfoldable pub exit_rate : Chain → ℕ → ℕ
exit_rate c s = sum_to (away c s) c.states

-- "The uniformisation rate q is the greatest exit rate."
unfoldable pub top_rate : Chain → ℕ
top_rate c = greatest (exit_rate c) c.states

-- "The load is q × hundredths / 100,000,000", "an exact fraction": times count hundredths of an hour, here and below.
unfoldable pub load : Chain → ℕ → Fraction
load c t = frac (top_rate c * t) rate_hundredths

-- "The depth D is 2 × (L rounded up to a whole number) + 40."
unfoldable pub depth : Chain → ℕ → ℕ
depth c t = 2 * round_up (load c t) + spare_steps
