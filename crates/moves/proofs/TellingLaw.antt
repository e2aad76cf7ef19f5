-- What the tally and the totals of all lines tell, by document 01's definitions: condition 9, and q. Assumes nothing.
use mathlib.Core.Path.{◌≡◌, refl, sym, ◌∙◌}
use Prim.Native.Nat.{ℕ, ◌+◌, ◌-◌, ◌≤◌, ◌<◌}
use native.Mathlib.Omega.{arith}
use mathlib.Core.Bool.{Bool, true, false, cond, ◌&&◌, ◌||◌, or-false}
use mathlib.Core.List.{List, [], ◌∷◌}
use lib.ListN.{length}
use lib.Dec.{ltb, eqb}
use borrow.Author.Tests.{le-ltb, ne_eqb, ltb-false}
use Rattle.csl.specs.Text.{any}
use Rattle.csl.specs.Limits.{most_states, most_rate}
use Rattle.csl.specs.Moves.{Move, rate_in, rates_out}
use Rattle.csl.specs.Chain.{greatest}
use Rattle.csl.specs.Refusal.{strange_state, wrong_rate}
use Rattle.numbers.specs.Filled.{at}
use Rattle.numbers.specs.Sum.{greatest_cong, greatest_le, greatest_most}
use Rattle.accepted.specs.Order.{neither}
use Rattle.accepted.specs.Rates.{Within, within_tested, Moving, moving_tested, rates_tested, others, others_slower}
use Rattle.moves.specs.Totals.{too_high, carried}
use Rattle.moves.specs.Tally.{any_still, Tallied}
use Rattle.moves.specs.Facts.{top_of}
use Rattle.std.specs.Prelude.{Some, None}
use Rattle.moves.specs.declared.tally.Tally.{Tally}
use Rattle.moves.proofs.TotalsLaw.{own_low, leaving}
use Rattle.moves.proofs.TallyLaw.{same_pair}

-- the rates out of a state are those to others and that to itself
out_parts : (ms : List Move) (s : ℕ) → rates_out (others ms) s + rate_in ms s s ≡ rates_out ms s
unfolding rates_out rate_in others
out_parts [] s = refl
out_parts (m ∷ ms) s = go (eqb m.from m.to) (same_pair m.from m.to s) (out_parts ms s)
  where
    go : (x : Bool) → (x && eqb m.from s) ≡ (eqb m.from s && eqb m.to s)
        → rates_out (others ms) s + rate_in ms s s ≡ rates_out ms s
        → rates_out (cond x (others ms) (m ∷ others ms)) s + (cond (eqb m.from s && eqb m.to s) m.rate 0 + rate_in ms s s)
        ≡ cond (eqb m.from s) m.rate 0 + rates_out ms s
    go true e h = rw (sym e) (omega arith)
    go false e h = rw (sym e) (omega arith)

-- rates above 0 and totals within the limit are not wrong
none_still : (ms : List Move) → Moving ms → any_still ms ≡ false
unfolding any Moving
none_still [] h = refl
none_still (m ∷ ms) h = rw (ne_eqb m.rate 0 (omega (arith, h.0)), none_still ms h.1)

none_wrong : (n : ℕ) (f : ℕ → ℕ) (ms : List Move) → Within n ms → any_still ms ≡ false → ((s : ℕ) → s < n → f s ≤ most_rate)
    → any (λ m. eqb m.rate 0 || ltb most_rate (f m.from)) ms ≡ false
unfolding any Within
none_wrong n f [] w h low = refl
none_wrong n f (m ∷ ms) w h low =
    let p = neither (eqb m.rate 0) (any_still ms) h in
    rw (p.0, le-ltb most_rate (f m.from) (low m.from w.0), none_wrong n f ms w.2 p.1 low)

-- what the greatest rate that goes from one state to others tells, where a total that is too high counts as too high: condition 9 and, where it
-- does not hold, q; of moves in any order
pub record Telling (n : ℕ) (ms : List Move) (top : ℕ) : Type 0 where
  pub wrong_told : wrong_rate ms ≡ (any_still ms || ltb most_rate top)
  pub top_told : wrong_rate ms ≡ false → top ≡ greatest (rates_out (others ms)) n

module _ {n : ℕ} {ms : List Move} {a : Tally} {totals owns : List ℕ} (t : Tallied n ms [] a totals owns) where
  pub count_is : a.count ≡ length ms
  count_is = omega (arith, t.counted)

  pub strange_is : a.strange ≡ strange_state n ms
  unfolding any
  strange_is = sym (or-false a.strange) ∙ t.strange_told

  still_is : a.still ≡ any_still ms
  unfolding any
  still_is = sym (or-false a.still) ∙ t.still_told

  module _ (few : n ≤ most_states) (known : a.strange ≡ false) where
    abbrev top : ℕ
    top = greatest (leaving totals owns) n

    total_is : (s : ℕ) → s < n → at totals s ≡ carried (rates_out ms s)
    unfolding rates_out
    total_is s l = omega (arith, t.total_told few known s l, t.carries.most s)

    own_is : (s : ℕ) → s < n → at owns s ≡ carried (rate_in ms s s)
    unfolding rate_in
    own_is s l = omega (arith, t.own_told few known s l, own_low t.carries s)

    -- a total within the limit leaves what goes to others; one that is too high shows
    within_leaves : (s : ℕ) → s < n → rates_out ms s ≤ most_rate → leaving totals owns s ≡ rates_out (others ms) s
    within_leaves s l h =
        rw (le-ltb most_rate (at totals s) (omega (arith, total_is s l))) (omega (arith, total_is s l, own_is s l, out_parts ms s))

    within_shows : (s : ℕ) → s < n → leaving totals owns s ≤ most_rate → rates_out ms s ≤ most_rate
    within_shows s l = go (ltb most_rate (at totals s)) refl
      where
        go : (x : Bool) → ltb most_rate (at totals s) ≡ x → cond x too_high (at totals s - at owns s) ≤ most_rate → rates_out ms s ≤ most_rate
        go true e h = absurd (omega arith)
        go false e h = let q : at totals s ≤ most_rate = ltb-false _ _ e in omega (arith, total_is s l)

    top_is : wrong_rate ms ≡ false → top ≡ greatest (rates_out (others ms)) n
    top_is h = greatest_cong _ _ n λ s l. within_leaves s l (rates_tested ms h s)

    top_low : wrong_rate ms ≡ false → top ≤ most_rate
    top_low h = rw (top_is h) (greatest_most _ most_rate n λ s l. omega (arith, others_slower ms s, rates_tested ms h s))

    not_wrong : any_still ms ≡ false → top ≤ most_rate → wrong_rate ms ≡ false
    not_wrong h low =
        none_wrong n (rates_out ms) ms (within_tested n ms (sym strange_is ∙ known)) h
        (λ s l. within_shows s l (omega (arith, greatest_le (leaving totals owns) s n l)))

    pub totals_tell : Telling n ms top
    totals_tell = record { wrong_told = go (wrong_rate ms) (any_still ms) (ltb most_rate top) refl refl refl; top_told = top_is }
      where
        go : (x y z : Bool) → wrong_rate ms ≡ x → any_still ms ≡ y → ltb most_rate top ≡ z → x ≡ (y || z)
        go false y z d e f = rw (sym e ∙ none_still ms (moving_tested ms d), sym f ∙ le-ltb most_rate top (top_low d))
        go true true z d e f = refl
        go true false true d e f = refl
        go true false false d e f = sym d ∙ not_wrong e (ltb-false _ _ f)

-- by the answers that the code has: the greatest rate where states are strange or too many, where test 9 holds, and where it does not
module _ (n : ℕ) (a : Tally) (totals owns : List ℕ) where
  pub top_unknown : (a.strange || ltb most_states n) ≡ true → (ms : List Move) → Tallied n ms [] a totals owns → None ≡ top_of n ms
  top_unknown h ms t = rw (rw (strange_is t) at h)

  module _ (h : (a.strange || ltb most_states n) ≡ false) {top : ℕ} (g : top ≡ greatest (leaving totals owns) n) where
    told : {ms : List Move} → Tallied n ms [] a totals owns → Telling n ms top
    told t = let p = neither a.strange (ltb most_states n) h in rw g (totals_tell t (ltb-false most_states n p.1) p.0)

    pub top_wrong : (a.still || ltb most_rate top) ≡ true → (ms : List Move) → Tallied n ms [] a totals owns → None ≡ top_of n ms
    top_wrong k ms t = rw (rw (strange_is t) at h, (told t).wrong_told, rw (still_is t) at k)

    pub top_good : (a.still || ltb most_rate top) ≡ false → (ms : List Move) → Tallied n ms [] a totals owns → Some top ≡ top_of n ms
    top_good k ms t =
        let w : wrong_rate ms ≡ false = (told t).wrong_told ∙ (rw (still_is t) at k) in
        rw (rw (strange_is t) at h, w, (told t).top_told w)

pub few_states : {n : ℕ} (x : Bool) → (x || ltb most_states n) ≡ false → n ≤ most_states
few_states {n} x h = ltb-false most_states n (neither x (ltb most_states n) h).1
