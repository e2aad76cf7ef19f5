-- The totals as they are carried, one line more. Assumes nothing.
use mathlib.Core.Path.{◌≡◌, refl, ◌∙◌}
use Prim.Native.Nat.{ℕ, zero, suc, ◌+◌, ◌≤◌, max}
use native.Mathlib.Omega.{arith}
use native.Mathlib.Numerals.{add-one}
use mathlib.Core.Bool.{Bool, true, false, cond, ◌&&◌}
use mathlib.Core.List.{List}
use lib.ListN.{length, replicate, length-set, length-replicate}
use lib.Seq.{get_or-set_same, get_or-set_other}
use lib.Dec.{eqb}
use borrow.Author.Tests.{eqb-true, eqb-false}
use Rattle.csl.specs.Limits.{most_states}
use Rattle.csl.specs.Chain.{greatest}
use Rattle.numbers.specs.Filled.{at}
use Rattle.moves.specs.Totals.{too_high, carried, place_of, rate_added, own_added, Carried, away_of}

-- what stands at a place after a rate more
pub rate_at : (sums : List ℕ) (s rate k : ℕ) → length sums ≡ most_states → at sums k ≤ too_high
    → at (rate_added sums s rate) k ≡ carried (at sums k + cond (eqb (place_of s) k) rate 0)
rate_at sums s rate k many low = go (eqb (place_of s) k) refl
  where
    go : (x : Bool) → eqb (place_of s) k ≡ x → at (rate_added sums s rate) k ≡ carried (at sums k + cond x rate 0)
    go true e =
        let z : place_of s ≡ k = eqb-true _ _ e in
        rw z (get_or-set_same sums k (carried (at sums k + rate)) 0 (omega arith))
    go false e =
        let d : place_of s ≡ k → ⊥ = eqb-false _ _ e in
        get_or-set_other sums (place_of s) k (carried (at sums (place_of s) + rate)) 0 (omega arith) ∙ omega arith

pub own_at : (owns : List ℕ) (from to rate k : ℕ) → length owns ≡ most_states → at owns k ≤ too_high
    → at (own_added owns from to rate) k ≡ carried (at owns k + cond (eqb from to && eqb (place_of from) k) rate 0)
own_at owns from to rate k many low = go (eqb from to)
  where
    go : (x : Bool) → at (cond x (rate_added owns from rate) owns) k ≡ carried (at owns k + cond (x && eqb (place_of from) k) rate 0)
    go true = rate_at owns from rate k many low
    go false = omega arith

-- nothing is added yet, and one line more
abbrev pub none : List ℕ
none = replicate most_states 0

pub none_at : (k m : ℕ) → at (replicate m 0) k ≡ 0
none_at k zero = refl
none_at zero (suc m) = refl
none_at (suc k) (suc m) = none_at k m

pub carries_none : Carried none none
carries_none =
    record {
      total_many = length-replicate {A = ℕ} most_states 0;
      own_many = length-replicate {A = ℕ} most_states 0;
      most = λ s. omega (arith, none_at s most_states);
      part = λ s. omega arith;
    }

module _ {totals owns : List ℕ} (k : Carried totals owns) where
  pub total_low : (s : ℕ) → at totals s ≤ too_high
  total_low s = k.most s

  pub own_part : (s : ℕ) → at owns s ≤ at totals s
  own_part s = k.part s

  pub own_low : (s : ℕ) → at owns s ≤ too_high
  own_low s = omega (arith, k.most s, k.part s)

  pub carries_on : (from to rate : ℕ) → Carried (rate_added totals from rate) (own_added owns from to rate)
  carries_on from to rate =
      record {
        total_many = length-set totals (place_of from) _ ∙ k.total_many;
        own_many = many (eqb from to);
        most = λ s. omega (arith, rate_at totals from rate s k.total_many (total_low s));
        part = λ s. part (eqb from to) (eqb (place_of from) s) s (rate_at totals from rate s k.total_many (total_low s)) (own_at owns from to rate s k.own_many (own_low s));
      }
    where
      many : (x : Bool) → length (cond x (rate_added owns from rate) owns) ≡ most_states
      many true = length-set owns (place_of from) _ ∙ k.own_many
      many false = k.own_many

      part : (x y : Bool) (s : ℕ) {a b : ℕ} → b ≡ carried (at totals s + cond y rate 0) → a ≡ carried (at owns s + cond (x && y) rate 0) → a ≤ b
      part true y s e f = omega (arith, k.part s)
      part false y s e f = omega (arith, k.part s, k.most s)

-- what goes from a state to others, by the sums, and the greatest of it: so far, and one state more
module _ (totals owns : List ℕ) where
  abbrev pub leaving : ℕ → ℕ
  leaving s = away_of (at totals s) (at owns s)

  pub seek_none : 0 ≡ greatest leaving 0
  unfolding greatest
  seek_none = refl

  pub seek_on : (s : ℕ) {top x r : ℕ} → top ≡ greatest leaving s → x ≡ away_of (at totals s) (at owns s) → r ≡ max top x → r ≡ greatest leaving (s + 1)
  unfolding greatest
  seek_on s v e g = rw (add-one s, ← v, ← e) g

pub ruleset seek_laws = (own_part, seek_none, seek_on)
