-- What a judgement from two ends says of a value, and that a comparison and its opposite exclude each other. Assumes nothing.
use Rattle.std.specs.Prelude.{◌≡◌, Bool, cond, ℕ, ◌+◌, ◌*◌, ◌≤◌, ◌<◌}
use Rattle.std.proofs.Math.Path.{refl}
use Rattle.std.proofs.Common.{sym, true≢false, arith, mul-le-mul_right, leb-true, ltb-true}
use Rattle.std.proofs.Math.Bool.{true, false}
use Rattle.std.proofs.Math.Dec.{leb, ltb}
use Rattle.csl.specs.Formula.{Comparison, Less, AtMost, AtLeast, More}
use Rattle.csl.specs.Fraction.{Fraction, IsFraction, Below, plus, billionths, part}
use Rattle.csl.specs.Limit.{Value, exact, limit, limits, Each, FromSome, FromSomePair, LimitIs, FractionIs, Holds, opposite}
use Rattle.csl.specs.Verdicts.{Verdict, No, Yes, Undecided, negation, judged, judged_at_least, judged_more, Agrees, Decided, as_no}
use Rattle.csl.specs.Truth.{Entry}
use Rattle.csl.proofs.Laws.Value.{Fractions}

-- what a verdict says, where T says what each comparison says
unfoldable pub Says : Verdict → Comparison → (Comparison → Type 0) → Type 0
Says Yes r T = T r
Says No r T = T (opposite r)
Says Undecided r T = Unit {0}

abbrev pub Settles : Verdict → Comparison → ℕ → Value → Type 0
Settles v r p x = Says v r (λ r. Holds r p x)

-- ends from which each comparison follows
module _ (T : Comparison → Type 0) (p lower upper : ℕ)
    (at_least_lem : p ≤ lower → T AtLeast) (less : upper < p → T Less) (at_most : upper ≤ p → T AtMost) (more : p < lower → T More) where
  says_low : Says (judged_at_least p lower upper) AtLeast T
  unfolding Says
  says_low = go (leb p lower) (ltb upper p) refl refl
    where
      go : (a b : Bool) → leb p lower ≡ a → ltb upper p ≡ b → Says (cond a Yes (cond b No Undecided)) AtLeast T
      go true b e f = at_least_lem (leb-true _ _ e)
      go false true e f = less (ltb-true _ _ f)
      go false false e f = tt

  says_high : Says (judged_more p lower upper) More T
  unfolding Says
  says_high = go (ltb p lower) (leb upper p) refl refl
    where
      go : (a b : Bool) → ltb p lower ≡ a → leb upper p ≡ b → Says (cond a Yes (cond b No Undecided)) More T
      go true b e f = more (ltb-true _ _ e)
      go false true e f = at_most (leb-true _ _ f)
      go false false e f = tt

  negated_low : (v : Verdict) → Says v AtLeast T → Says (negation v) Less T
  unfolding Says
  negated_low No h = h
  negated_low Yes h = h
  negated_low Undecided h = tt

  negated_high : (v : Verdict) → Says v More T → Says (negation v) AtMost T
  unfolding Says
  negated_high No h = h
  negated_high Yes h = h
  negated_high Undecided h = tt

  -- a yes says that the comparison holds, a no that the opposite one does
  pub says : (r : Comparison) → Says (judged r p lower upper) r T
  says Less = negated_low (judged_at_least p lower upper) says_low
  says AtMost = negated_high (judged_more p lower upper) says_high
  says AtLeast = says_low
  says More = says_high

-- quotients of which P holds from some depth on, or from some pair of depths, and Q: at one of them both do
pub record Common (P Q : Fraction → Type 0) : Type 0 where
  pub at : Fraction
  pub is : IsFraction at
  pub left : P at
  pub right : Q at

-- limits: In P says that from some depth, or pair of depths, on all quotients are P
module _ (In : (Fraction → Type 0) → Type 0) (p : ℕ) where
  module _ (meet : (P Q : Fraction → Type 0) → In P → In Q → Common P Q) where
    low_apart : LimitIs AtLeast p In → LimitIs Less p In → ⊥
    low_apart h k =
        let j : Common (λ y. Below (billionths p) (plus y (part (2 * k.m)))) (λ y. Below (plus y (part k.m)) (billionths p))
        = meet _ _ (h (2 * k.m) (omega (arith, k.from_one))) k.holds in
        omega (arith, j.is, j.left, j.right)

    high_apart : LimitIs AtMost p In → LimitIs More p In → ⊥
    high_apart h k =
        let j : Common (λ y. Below y (plus (billionths p) (part (2 * k.m)))) (λ y. Below (plus (billionths p) (part k.m)) y)
        = meet _ _ (h (2 * k.m) (omega (arith, k.from_one))) k.holds in
        omega (arith, j.is, j.left, j.right)

    pub limit_apart : (r : Comparison) → LimitIs r p In → LimitIs (opposite r) p In → ⊥
    limit_apart Less h k = low_apart k h
    limit_apart AtMost h k = high_apart h k
    limit_apart AtLeast h k = low_apart h k
    limit_apart More h k = high_apart k h

  -- quotients between two ends from some depth on
  module _ (lower upper : ℕ)
      (between : (P : Fraction → Type 0) → ((y : Fraction) → Below (billionths lower) y → Below y (billionths upper) → P y) → In P) where
    pub limit_says : (r : Comparison) → Says (judged r p lower upper) r (λ r. LimitIs r p In)
    limit_says =
        says (λ r. LimitIs r p In) p lower upper
        (λ h m one. between _ λ y b a. omega (arith, mul-le-mul_right (y.bottom * m) h, mul-le-mul_right m b))
        (λ h. record {
          m = 1000000000;
          from_one = omega arith;
          holds = between _ λ y b a. omega (arith, mul-le-mul_right y.bottom h, a);
        })
        (λ h m one. between _ λ y b a. omega (arith, mul-le-mul_right (y.bottom * m) h, mul-le-mul_right m a))
        (λ h. record {
          m = 1000000000;
          from_one = omega arith;
          holds = between _ λ y b a. omega (arith, mul-le-mul_right y.bottom h, b);
        })

from_meet : (x : ℕ → Fraction) → ((n : ℕ) → IsFraction (x n)) → (P Q : Fraction → Type 0) → FromSome x P → FromSome x Q → Common P Q
from_meet x is P Q h k =
    let n : ℕ = h.begin + k.begin in
    record { at = x n; is = is n; left = h.all n (omega arith); right = k.all n (omega arith) }

pair_meet : (x : ℕ → ℕ → Fraction) → ((m n : ℕ) → IsFraction (x m n)) → (P Q : Fraction → Type 0) → FromSomePair x P → FromSomePair x Q → Common P Q
pair_meet x is P Q h k =
    let m : ℕ = h.begin + k.begin in
    let n : ℕ = h.begin_later + k.begin_later in
    record { at = x m n; is = is m n; left = h.all m n (omega arith) (omega arith); right = k.all m n (omega arith) (omega arith) }

-- exact fractions
exact_apart : (x : Fraction) (p : ℕ) (r : Comparison) → FractionIs r p x → FractionIs (opposite r) p x → ⊥
exact_apart x p Less h k = omega (arith, h, k)
exact_apart x p AtMost h k = omega (arith, h, k)
exact_apart x p AtLeast h k = omega (arith, h, k)
exact_apart x p More h k = omega (arith, h, k)

exact_says : (x : Fraction) → IsFraction x → (p lower upper : ℕ) → Below (billionths lower) x → Below x (billionths upper)
    → (r : Comparison) → Says (judged r p lower upper) r (λ r. FractionIs r p x)
exact_says x is p lower upper b a =
    says (λ r. FractionIs r p x) p lower upper (λ h. omega (arith, mul-le-mul_right x.bottom h, b))
    (λ h. omega (arith, is, mul-le-mul_right x.bottom h, a)) (λ h. omega (arith, mul-le-mul_right x.bottom h, a))
    (λ h. omega (arith, is, mul-le-mul_right x.bottom h, b))

-- a comparison and its opposite exclude each other
pub apart : (x : Value) → Fractions x → (p : ℕ) (r : Comparison) → Holds r p x → Holds (opposite r) p x → ⊥
apart (exact x) is p r h k = exact_apart x p r h k
apart (limit d x) is p r h k = limit_apart (FromSome x) p (from_meet x is) r h k
apart (limits d e x) is p r h k = limit_apart (FromSomePair x) p (pair_meet x is) r h k

pub settles : (x : Value) → Fractions x → (lower upper : ℕ) → Each (λ y. Below (billionths lower) y) x
    → Each (λ y. Below y (billionths upper)) x → (r : Comparison) (p : ℕ) → Settles (judged r p lower upper) r p x
settles (exact x) is lower upper below above r p = exact_says x is p lower upper below above r
settles (limit d x) is lower upper below above r p =
    limit_says (FromSome x) p lower upper (λ P f. record { begin = d; all = λ n l. f (x n) (below n l) (above n l) }) r
settles (limits d e x) is lower upper below above r p =
    limit_says (FromSomePair x) p lower upper
    (λ P f. record { begin = d; begin_later = e; all = λ m n i j. f (x m n) (below m n i j) (above m n i j) }) r

-- so an entry that obeys agrees
pub entry_agrees : (x : Value) → Fractions x → (r : Comparison) (p : ℕ) (v : Verdict) (b : Bool) → Settles v r p x → Entry r p x b → Agrees v b
unfolding Says Agrees
entry_agrees x is r p No true h e = absurd (apart x is p r (e.if_yes refl) h)
entry_agrees x is r p No false h e = refl
entry_agrees x is r p Yes true h e = refl
entry_agrees x is r p Yes false h e = absurd (apart x is p r h (e.if_no refl))
entry_agrees x is r p Undecided b h e = tt

-- and a decided verdict is an entry that obeys
pub entry_obeys : (x : Value) (r : Comparison) (p : ℕ) (v : Verdict) → Decided v → Settles v r p x → Entry r p x (as_no v)
unfolding Says
entry_obeys x r p No d h = record { if_yes = λ e. absurd (true≢false (sym e)); if_no = λ e. h }
entry_obeys x r p Yes d h = record { if_yes = λ e. h; if_no = λ e. absurd (true≢false e) }
entry_obeys x r p Undecided d h = absurd d
