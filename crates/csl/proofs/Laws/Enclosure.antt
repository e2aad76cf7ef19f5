-- T1: the two ends enclose all quotients from D on, for every reading of the operands. Assumes nothing.
use Rattle.std.specs.Prelude.{Bool, ℕ, zero, suc, ◌-◌, ◌≤◌, ◌<◌}
use Rattle.std.proofs.Common.{arith}
use Rattle.csl.specs.Formula.{PathOf, until_of, next_of, between_of, mapped}
use Rattle.csl.specs.Fraction.{Fraction, IsFraction, Below, billionths}
use Rattle.csl.specs.Chain.{Chain, depth}
use Rattle.csl.specs.Limit.{Value, exact, limit, limits, Each}
use Rattle.csl.specs.Verdicts.{Verdict, least, most}
use Rattle.csl.specs.Until.{until_quotient, low_quotient, high_quotient}
use Rattle.csl.specs.Next.{next_fraction}
use Rattle.csl.specs.Between.{between_quotient}
use Rattle.csl.specs.Path.{value_at, low_value, high_value, Reads, reads_until, reads_next, reads_between}
use Rattle.csl.specs.Ends.{EndsAt}
use Rattle.csl.proofs.Laws.Fraction.{below_trans}
use Rattle.csl.proofs.Laws.Value.{Fractions, Rises, exact_rises, limit_rises, limits_rise, each_over, each_under, reads_least}
use Rattle.csl.proofs.Laws.Quotient.{until_is, low_under, high_over}
use Rattle.csl.proofs.Laws.Next.{next_is, next_low, next_high}
use Rattle.csl.proofs.Laws.Between.{between_is, between_low, between_high}

-- of each kind of path: its quotients are fractions, and a reading's lie over those of the least reading and under those of the greatest
pub value_is : (c : Chain) (o : PathOf (ℕ → Bool)) (s : ℕ) → Fractions (value_at c o s)
value_is c (until_of t x y) s = until_is c t x y s
value_is c (next_of x) s = next_is c x s
value_is c (between_of zero u x y) s = until_is c u x y s
value_is c (between_of (suc t) u x y) s = between_is c (suc t) u x y s

pub low_rises : (c : Chain) (o : PathOf (ℕ → Verdict)) (x : PathOf (ℕ → Bool)) → Reads c.states o x → (s : ℕ) → s < c.states
    → Rises (low_value c o s) (value_at c x s)
low_rises c _ _ (reads_until t v w x y h k) s l =
    limit_rises (depth c t) (low_quotient c t v w s) (until_quotient c t x y s) (λ n. low_under c t v w x y h k s n l)
low_rises c _ _ (reads_next v x h) s l = exact_rises (next_fraction c (least v) s) (next_fraction c x s) (next_low c v x h s)
low_rises c _ _ (reads_between zero u v w x y h k) s l =
    limit_rises (depth c u) (low_quotient c u v w s) (until_quotient c u x y s) (λ n. low_under c u v w x y h k s n l)
low_rises c _ _ (reads_between (suc t) u v w x y h k) s l =
    limits_rise (depth c (suc t)) (depth c (u - suc t)) (between_quotient c (suc t) u (least v) (least w) s) (between_quotient c (suc t) u x y s)
    (λ m n. between_low c (suc t) u v w x y h k s m n l)

pub high_rises : (c : Chain) (o : PathOf (ℕ → Verdict)) (x : PathOf (ℕ → Bool)) → Reads c.states o x → (s : ℕ) → s < c.states
    → Rises (value_at c x s) (high_value c o s)
high_rises c _ _ (reads_until t v w x y h k) s l =
    limit_rises (depth c t) (until_quotient c t x y s) (high_quotient c t v w s) (λ n. high_over c t v w x y h k s n l)
high_rises c _ _ (reads_next v x h) s l = exact_rises (next_fraction c x s) (next_fraction c (most v) s) (next_high c v x h s)
high_rises c _ _ (reads_between zero u v w x y h k) s l =
    limit_rises (depth c u) (until_quotient c u x y s) (high_quotient c u v w s) (λ n. high_over c u v w x y h k s n l)
high_rises c _ _ (reads_between (suc t) u v w x y h k) s l =
    limits_rise (depth c (suc t)) (depth c (u - suc t)) (between_quotient c (suc t) u x y s) (between_quotient c (suc t) u (most v) (most w) s)
    (λ m n. between_high c (suc t) u v w x y h k s m n l)

pub record Encloses (c : Chain) (lower upper : ℕ) (x : PathOf (ℕ → Bool)) (s : ℕ) : Type 0 where
  pub below : Each (λ y. Below (billionths lower) y) (value_at c x s)
  pub above : Each (λ y. Below y (billionths upper)) (value_at c x s)

pub encloses : (c : Chain) (o : PathOf (ℕ → Verdict)) (x : PathOf (ℕ → Bool)) (s lower upper : ℕ) → s < c.states → EndsAt c o s lower upper
    → Reads c.states o x → Encloses c lower upper x s
encloses c o x s lower upper l e h =
    record {
      below = each_over (billionths lower) _ _ (low_rises c o x h s l) e.lower_side;
      above = each_under (billionths upper) _ _ (high_rises c o x h s l) e.upper_side;
    }

-- the lower end is not above the upper one
ends_around : (x : Fraction) → IsFraction x → (lower upper : ℕ) → Below (billionths lower) x → Below x (billionths upper) → lower ≤ upper
ends_around x is lower upper h k =
    let z : Below (billionths lower) (billionths upper) = below_trans (billionths lower) x (billionths upper) is h k in omega arith

common : (x : Value) → Fractions x → (lower upper : ℕ) → Each (λ y. Below (billionths lower) y) x → Each (λ y. Below y (billionths upper)) x
    → lower ≤ upper
common (exact x) is lower upper h k = ends_around x is lower upper h k
common (limit d x) is lower upper h k = ends_around (x d) (is d) lower upper (h d (omega arith)) (k d (omega arith))
common (limits d e x) is lower upper h k =
    ends_around (x d e) (is d e) lower upper (h d e (omega arith) (omega arith)) (k d e (omega arith) (omega arith))

pub ordered_ends : (c : Chain) (o : PathOf (ℕ → Verdict)) (s lower upper : ℕ) → s < c.states → EndsAt c o s lower upper → lower ≤ upper
ordered_ends c o s lower upper l e =
    let i : Encloses c lower upper (mapped least o) s = encloses c o (mapped least o) s lower upper l e (reads_least c.states o) in
    common (value_at c (mapped least o) s) (value_is c (mapped least o) s) lower upper i.below i.above
