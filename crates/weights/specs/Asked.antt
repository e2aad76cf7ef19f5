-- What the functions of the weights ask. The load is a / b, its whole part m, the depth d. Assumes nothing.
use Rattle.std.specs.Prelude.{◌≡◌, List, ℕ, ◌+◌, ◌*◌, ◌^◌, ◌≤◌, ◌<◌, length}
use Rattle.numbers.specs.Filled.{at}
use Rattle.bounds.specs.Weight.{peak, Middle, low, apart}
use Rattle.bounds.specs.Unit.{one, scale, part}

-- the numbers hold fewer steps than this
abbrev pub most_steps : ℕ
most_steps = 1024

-- a weight at or before the largest one: k * b is at most a
pub record Fall (w k a b : ℕ) : Type 0 where
  pub weight : w ≤ peak
  pub some : 0 < a
  pub load : a < 2 ^ 36
  pub falls : k * b ≤ a

-- a weight at or after the largest one: a is at most k * b
pub record Rise (w k a b : ℕ) : Type 0 where
  pub weight : w ≤ peak
  pub some : 0 < a
  pub load : a < 2 ^ 36
  pub divisor : k * b < 2 ^ 37
  pub falls : a ≤ k * b

-- the weight of step k, to be made as much greater as it can be too low
pub record Slack (w m k : ℕ) : Type 0 where
  pub weight : w ≤ peak
  pub middle : m < most_steps
  pub step : k < most_steps

-- a weight times a value, to be added to a sum
pub record Adds (sum w v : ℕ) : Type 0 where
  pub weight : w ≤ peak
  pub value : v ≤ one
  pub fits : sum + part w v < 2 ^ 64

-- a sum of such products, to be put over the total
pub record Over (g t : ℕ) : Type 0 where
  pub some : 0 < t
  pub divisor : t < 2 ^ 52
  pub fits : g * scale < 2 ^ 64 * t

-- what is left of a division by the total, to be put over it
pub record Share (rest t : ℕ) : Type 0 where
  pub less : rest < t
  pub divisor : t < 2 ^ 52

-- the weights below the middle, from place p on
pub record Half (l : List ℕ) (p m a b : ℕ) : Type 0 where
  pub middle : Middle a b m
  pub room : p + m < length l
  pub steps : m < most_steps
  pub load : a < 2 ^ 36
  pub small : b < 2 ^ 27

-- the weights above it, once those through it stand
pub record Rest (l : List ℕ) (p m d a b : ℕ) : Type 0 where
  pub half : Half l p m a b
  pub deep : m ≤ d
  pub long : p + d < length l
  pub limit : d < most_steps
  pub stand : (k : ℕ) → k < m + 1 → at l (p + k) ≡ low a b m k

-- weight k of those from place p on, and how much too low it can be
abbrev pub weighed : List ℕ → (p m : ℕ) → ℕ → ℕ
weighed l p m k = at l (p + k) + apart m k

pub record Total (l : List ℕ) (p m d : ℕ) : Type 0 where
  pub deep : m ≤ d
  pub long : p + d < length l
  pub limit : d < most_steps
  pub light : (k : ℕ) → k < d + 1 → at l (p + k) ≤ peak

-- the whole table of weights and its total
pub record Weigh (l : List ℕ) (p m d a b : ℕ) : Type 0 where
  pub half : Half l p m a b
  pub deep : m ≤ d
  pub long : p + d < length l
  pub limit : d < most_steps
