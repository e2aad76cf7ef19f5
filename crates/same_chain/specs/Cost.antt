-- What moves cost, in lines and in bytes: the pairs of a chain cost at most what the lines do that say it. Assumes nothing.
use Rattle.std.specs.Prelude.{◌≡◌, Bool, ◌&&◌, length}
use Rattle.std.proofs.Math.Path.{refl}
use Rattle.std.proofs.Common.{◌∙◌, ⊎_elim, pow-suc, mul-le-mul_left, mul-le-mul_right, pow-add, length-append, eqb-true, ne_eqb}
use Rattle.std.proofs.Math.Bool.{true, false, cond}
use mathlib.Core.List.{List, [], ◌∷◌, ◌++◌}
use Prim.Native.Nat.{ℕ, zero, suc, ◌+◌, ◌/◌, ◌^◌, ◌≤◌, ◌<◌}
use native.Mathlib.Omega.{arith}
use Rattle.std.proofs.Math.Dec.{eqb}
use Rattle.csl.specs.Line.{line_feed, comma}
use Rattle.csl.specs.Moves.{Move, rate_in}
use Rattle.csl.specs.Chain.{sum_to}
use Rattle.csl.specs.Report.{decimal}
use Rattle.csl.specs.Copy.{move_text, lines_text, moves_text, pairs_from, pairs_below}
use Rattle.csl.proofs.Laws.Decimal.{order, length_one, length_more, length_within, length_some}
use Rattle.numbers.specs.Sum.{sum_le, sum_add, sum_none}
use Rattle.accepted.specs.Rates.{Within, Moving, line_share}

-- what a list of moves costs, where a move costs by its rate and its states
unfoldable pub cost_of : (ℕ → ℕ → ℕ → ℕ) → List Move → ℕ
cost_of cost [] = 0
cost_of cost (m ∷ ms) = cost m.rate m.from m.to + cost_of cost ms

-- where two lines of one pair cost at least what one line with both rates costs
module _ (cost : ℕ → ℕ → ℕ → ℕ) (joins : (a b s t : ℕ) → cost (a + b) s t ≤ cost a s t + cost b s t) where
  cost_append : (l k : List Move) → cost_of cost (l ++ k) ≡ cost_of cost l + cost_of cost k
  unfolding cost_of
  cost_append [] k = omega arith
  cost_append (m ∷ l) k = omega (arith, cost_append l k)

  -- a pair costs where it has a rate
  abbrev pair_cost : ℕ → ℕ → ℕ → ℕ
  pair_cost r s t = cond (eqb r 0) 0 (cost r s t)

  abbrev row_cost : (ℕ → ℕ → ℕ) → ℕ → ℕ → ℕ
  row_cost rate n s = sum_to (λ t. pair_cost (rate s t) s t) n

  listed_cost : (rate : ℕ → ℕ → ℕ) (s t : ℕ)
      → cost_of cost (cond (eqb (rate s t) 0) [] (record { from = s; to = t; rate = rate s t } ∷ [])) ≡ pair_cost (rate s t) s t
  unfolding cost_of
  listed_cost rate s t = go (eqb (rate s t) 0)
    where
      go : (b : Bool) → cost_of cost (cond b [] (record { from = s; to = t; rate = rate s t } ∷ [])) ≡ cond b 0 (cost (rate s t) s t)
      go true = refl
      go false = omega arith

  from_cost : (rate : ℕ → ℕ → ℕ) (s m : ℕ) → cost_of cost (pairs_from rate s m) ≡ row_cost rate m s
  unfolding pairs_from sum_to cost_of
  from_cost rate s zero = refl
  from_cost rate s (suc m) = cost_append (pairs_from rate s m) _ ∙ omega (arith, from_cost rate s m, listed_cost rate s m)

  below_cost : (rate : ℕ → ℕ → ℕ) (n m : ℕ) → cost_of cost (pairs_below rate n m) ≡ sum_to (row_cost rate n) m
  unfolding pairs_below sum_to cost_of
  below_cost rate n zero = refl
  below_cost rate n (suc m) =
      cost_append (pairs_below rate n m) (pairs_from rate m n) ∙ omega (arith, below_cost rate n m, from_cost rate m n)

  -- one line more: its pair costs at most so much more
  rate_more : (r a s t : ℕ) → 0 < r → pair_cost (r + a) s t ≤ pair_cost a s t + cost r s t
  rate_more r zero s t h = let e : r + 0 ≡ r = omega arith in rw (e, ne_eqb r 0 (λ z. omega arith)) (omega arith)
  rate_more r (suc a) s t h =
      rw (ne_eqb (r + suc a) 0 (λ z. omega arith), ne_eqb (suc a) 0 (λ z. omega arith)) (omega (arith, joins r (suc a) s t))

  line_more : (m : Move) (a s t : ℕ) → 0 < m.rate
      → pair_cost (cond (eqb m.from s && eqb m.to t) m.rate 0 + a) s t
      ≤ pair_cost a s t + cond (eqb m.from s && eqb m.to t) (cost m.rate m.from m.to) 0
  line_more m a s t h = go (eqb m.from s) (eqb m.to t) refl refl
    where
      go : (x y : Bool) → eqb m.from s ≡ x → eqb m.to t ≡ y
          → pair_cost (cond (x && y) m.rate 0 + a) s t ≤ pair_cost a s t + cond (x && y) (cost m.rate m.from m.to) 0
      go true true e f =
          let i : m.from ≡ s = eqb-true _ _ e in
          let j : m.to ≡ t = eqb-true _ _ f in
          rw (i, j) (rate_more m.rate a s t h)
      go true false e f = let z : 0 + a ≡ a = omega arith in rw z (omega arith)
      go false y e f = let z : 0 + a ≡ a = omega arith in rw z (omega arith)

  lines_more : (m : Move) (ms : List Move) (n : ℕ) → m.from < n → m.to < n → 0 < m.rate
      → sum_to (row_cost (rate_in (m ∷ ms)) n) n ≤ sum_to (row_cost (rate_in ms) n) n + cost m.rate m.from m.to
  unfolding rate_in
  lines_more m ms n l k h =
      let K : ℕ = cost m.rate m.from m.to in
      let row : (s : ℕ) → s < n → row_cost (rate_in (m ∷ ms)) n s ≤ row_cost (rate_in ms) n s + cond (eqb m.from s) K 0
      = λ s i. omega (
        arith,
        sum_le (λ t. pair_cost (rate_in (m ∷ ms) s t) s t) (λ t. pair_cost (rate_in ms s t) s t + cond (eqb m.from s && eqb m.to t) K 0) n
            (λ t j. line_more m (rate_in ms s t) s t h),
        sum_add (λ t. pair_cost (rate_in ms s t) s t) (λ t. cond (eqb m.from s && eqb m.to t) K 0) n,
        line_share (eqb m.from s) K m.to n k,
      ) in
      omega (
        arith,
        sum_le (row_cost (rate_in (m ∷ ms)) n) (λ s. row_cost (rate_in ms) n s + cond (eqb m.from s) K 0) n row,
        sum_add (row_cost (rate_in ms) n) (λ s. cond (eqb m.from s) K 0) n,
        line_share true K m.from n l,
      )

  no_cost : (n : ℕ) → sum_to (row_cost (rate_in []) n) n ≡ 0
  unfolding rate_in
  no_cost n = sum_none _ n (λ s l. sum_none _ n (λ t k. refl))

  lines_cost : (ms : List Move) (n : ℕ) → Within n ms → Moving ms → sum_to (row_cost (rate_in ms) n) n ≤ cost_of cost ms
  unfolding Within Moving cost_of
  lines_cost [] n w r = omega (arith, no_cost n)
  lines_cost (m ∷ ms) n w r = omega (arith, lines_more m ms n w.0 w.1 r.0, lines_cost ms n w.2 r.1)

  pub pairs_cost : (ms : List Move) (n : ℕ) → Within n ms → Moving ms → cost_of cost (pairs_below (rate_in ms) n n) ≤ cost_of cost ms
  pairs_cost ms n w r = omega (arith, below_cost (rate_in ms) n n, lines_cost ms n w r)

-- each costs 1: the pairs are at most so many as the lines
count_is : (ms : List Move) → cost_of (λ r s t. 1) ms ≡ length ms
unfolding cost_of
count_is [] = refl
count_is (m ∷ ms) = omega (arith, count_is ms)

pub pairs_few : (ms : List Move) (n : ℕ) → Within n ms → Moving ms → length (pairs_below (rate_in ms) n n) ≤ length ms
pairs_few ms n w r =
    omega (arith, count_is ms, count_is (pairs_below (rate_in ms) n n), pairs_cost (λ r s t. 1) (λ a b s t. omega arith) ms n w r)

-- each costs its bytes: a sum has at most the digits of both numbers
abbrev digits : ℕ → ℕ
digits n = length (decimal n)

below_digits : (k n : ℕ) → n ≤ k → n < 10 ^ digits n
below_digits zero n h = let e : n ≡ 0 = omega arith in rw (e, length_one 0 (omega arith)) (omega arith)
below_digits (suc k) n h =
    ⊎_elim (λ (l : n < 10). rw (length_one n l) (omega arith))
    (λ (g : 10 ≤ n).
    let e : digits n ≡ suc (digits (n / 10)) = omega (arith, length_more n g) in
    rw (e, pow-suc 10 (digits (n / 10))) (omega (arith, below_digits k (n / 10) (omega arith))))
    (order n)

within_digits : (k n : ℕ) → n < 10 ^ k → 1 ≤ k → digits n ≤ k
within_digits zero n h l = absurd (omega arith)
within_digits (suc k) n h l = length_within k n h

some_tens : (k : ℕ) → 1 ≤ k → 10 ≤ 10 ^ k
some_tens zero h = absurd (omega arith)
some_tens (suc zero) h = omega arith
some_tens (suc (suc k)) h = rw (pow-suc 10 (suc k)) (omega (arith, some_tens (suc k) (omega arith)))

digits_join : (a b : ℕ) → digits (a + b) ≤ digits a + digits b
digits_join a b =
    let x : ℕ = 10 ^ digits a in
    let y : ℕ = 10 ^ digits b in
    let p : 10 ≤ x = some_tens (digits a) (length_some a) in
    let q : 10 ≤ y = some_tens (digits b) (length_some b) in
    within_digits (digits a + digits b) (a + b)
    (omega (
      arith,
      pow-add 10 (digits a) (digits b),
      below_digits a a (omega arith),
      below_digits b b (omega arith),
      mul-le-mul_right y p,
      mul-le-mul_left x q,
    ))
    (omega (arith, length_some a))

-- a line, with its commas and its line feed
abbrev line_bytes : ℕ → ℕ → ℕ → ℕ
line_bytes r s t = digits s + digits t + digits r + 3

line_bytes_lem : (m : Move) → length (move_text m) + 1 ≡ line_bytes m.rate m.from m.to
line_bytes_lem m =
    omega (
      arith,
      length-append (decimal m.from ++ (comma ∷ decimal m.to)) (comma ∷ decimal m.rate),
      length-append (decimal m.from) (comma ∷ decimal m.to),
    )

lines_bytes : (ms : List Move) → length (lines_text ms) ≡ cost_of line_bytes ms
unfolding lines_text cost_of
lines_bytes [] = refl
lines_bytes (m ∷ ms) = omega (arith, length-append (move_text m) (line_feed ∷ lines_text ms), line_bytes_lem m, lines_bytes ms)

pub pairs_short : (ms : List Move) (n : ℕ) → Within n ms → Moving ms → length (moves_text (pairs_below (rate_in ms) n n)) ≤ length (moves_text ms)
unfolding moves_text
pairs_short ms n w r =
    omega (
      arith,
      lines_bytes (pairs_below (rate_in ms) n n),
      lines_bytes ms,
      pairs_cost line_bytes (λ a b s t. omega (arith, digits_join a b)) ms n w r,
    )
