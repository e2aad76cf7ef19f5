-- The tally and the totals of move lines, line by line. Assumes nothing.
use mathlib.Core.Path.{◌≡◌, refl, sym, ap, ◌∙◌}
use Prim.Native.Nat.{ℕ, ◌+◌, ◌≤◌, ◌<◌}
use native.Mathlib.Omega.{arith}
use mathlib.Core.Bool.{Bool, true, false, cond, ◌&&◌, ◌||◌, or-false}
use mathlib.Core.List.{List, ◌∷◌}
use lib.Dec.{leb, ltb, eqb}
use borrow.Author.Tests.{lt-leb, ne_eqb, ltb-true, leb-false, eqb-true, eqb-false}
use Rattle.csl.specs.Text.{any}
use Rattle.csl.specs.Limits.{most_states}
use Rattle.csl.specs.Moves.{Move, rate_in, rates_out}
use Rattle.csl.specs.Refusal.{strange_state}
use Rattle.accepted.specs.Order.{neither}
use Rattle.moves.specs.Totals.{place_of, rate_added, own_added}
use Rattle.moves.specs.Tally.{begun, added, any_still, Tallied}
use Rattle.moves.specs.declared.tally.Tally.{Tally}
use Rattle.moves.proofs.TotalsLaw.{rate_at, own_at, none, none_at, carries_none, total_low, own_low, carries_on}

-- a line of known states with a rate above 0 tells nothing but its rate
pub plain_line : (n : ℕ) (a : Tally) (from to rate : ℕ) → from < n → ltb to n ≡ true → ltb 0 rate ≡ true
    → record { count = a.count + 1; strange = a.strange; still = a.still } ≡ added n a from to rate
plain_line n a from to rate h i k =
    let p : 0 < rate = ltb-true 0 rate k in
    rw (lt-leb n from h, lt-leb n to (ltb-true to n i), ne_eqb rate 0 (omega arith), or-false a.strange, or-false a.still)
    (rw (or-false a.strange))

-- before the first line all are left
pub tallied_none : (n : ℕ) (ms : List Move) → Tallied n ms ms begun none none
tallied_none n ms =
    record {
      counted = omega arith;
      strange_told = refl;
      still_told = refl;
      carries = carries_none;
      total_told = λ few known s l. omega (arith, none_at s most_states);
      own_told = λ few known s l. omega (arith, none_at s most_states);
    }

-- a line to its own state that leaves s is one that leaves s and enters s
pub same_pair : (from to s : ℕ) → (eqb from to && eqb from s) ≡ (eqb from s && eqb to s)
same_pair from to s = go (eqb from to) (eqb from s) (eqb to s) refl refl refl
  where
    go : (x y z : Bool) → eqb from to ≡ x → eqb from s ≡ y → eqb to s ≡ z → (x && y) ≡ (y && z)
    go true true true d e f = refl
    go true true false d e f = let z : to ≡ s → ⊥ = eqb-false _ _ f in absurd (z (sym (eqb-true _ _ d) ∙ eqb-true _ _ e))
    go true false z d e f = refl
    go false true true d e f = let z : from ≡ to → ⊥ = eqb-false _ _ d in absurd (z (eqb-true _ _ e ∙ sym (eqb-true _ _ f)))
    go false true false d e f = refl
    go false false z d e f = refl

-- one line more is read
module _ {n : ℕ} {all rest : List Move} {m : Move} {a : Tally} {totals owns : List ℕ} (t : Tallied n all (m ∷ rest) a totals owns) where
  abbrev on : Tally
  on = added n a m.from m.to m.rate

  four : (x y z w : Bool) → (x || y || z || w) ≡ (x || (y || z || w))
  four true y z w = refl
  four false y z w = refl

  three : (x y z : Bool) → (x || y || z) ≡ (x || (y || z))
  three true y z = refl
  three false y z = refl

  known : on.strange ≡ false → (a.strange ≡ false) × (m.from < n)
  known h =
      let p = neither (a.strange || leb n m.from) (leb n m.to) h in
      let q = neither a.strange (leb n m.from) p.0 in
      (q.0, leb-false n m.from q.1)

  here : n ≤ most_states → on.strange ≡ false → place_of m.from ≡ m.from
  here few h = omega (arith, (known h).1)

  pub tallied_on : Tallied n all rest on (rate_added totals m.from m.rate) (own_added owns m.from m.to m.rate)
  unfolding any rates_out rate_in
  tallied_on =
      record {
        counted = omega (arith, t.counted);
        strange_told = four a.strange (leb n m.from) (leb n m.to) (strange_state n rest) ∙ t.strange_told;
        still_told = three a.still (eqb m.rate 0) (any_still rest) ∙ t.still_told;
        carries = carries_on t.carries m.from m.to m.rate;
        total_told = λ few h s l.
            omega (
              arith,
              ap (λ (k : ℕ). cond (eqb k s) m.rate 0) (here few h),
              rate_at totals m.from m.rate s t.carries.total_many (total_low t.carries s),
              t.total_told few (known h).0 s l,
            );
        own_told = λ few h s l.
            omega (
              arith,
              ap (λ (k : ℕ). cond (eqb m.from m.to && eqb k s) m.rate 0) (here few h),
              ap (λ (b : Bool). cond b m.rate 0) (same_pair m.from m.to s),
              own_at owns m.from m.to m.rate s t.carries.own_many (own_low t.carries s),
              t.own_told few (known h).0 s l,
            );
      }
