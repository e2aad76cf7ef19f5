-- The names of a rest, one by one: x is the first of them, and u the rest after it. Assumes nothing.
use mathlib.Core.Path.{◌≡◌, refl, sym, ap, ◌∙◌}
use Prim.Native.Nat.{ℕ, suc, ◌+◌, ◌≤◌, ◌<◌}
use native.Mathlib.Omega.{arith}
use mathlib.Core.Bool.{Bool, true, false, cond, not, ◌||◌}
use mathlib.Core.List.{List, [], ◌∷◌, head_d}
use lib.ListN.{length}
use lib.Dec.{ltb, leb-suc-suc}
use borrow.Author.Tests.{lt-ltb, le-ltb, not-true, not-false}
use Rattle.std.specs.Prelude.{nat_eq}
use Rattle.std.specs.Cmp.Lexicographic.{pointwise}
use Rattle.texts.proofs.Same.{equal_is}
use Rattle.csl.specs.Text.{Text, same, among, every}
use Rattle.csl.specs.Line.{comma}
use Rattle.csl.specs.Labels.{is_name, no_repeat, place_of}
use Rattle.texts.specs.Behind.{parts_behind, after_part, behind_none, behind_some, behind_shorter}
use Rattle.labels.specs.FirstLine.{commas_in}
use Rattle.labels.proofs.CommasLaw.{commas_names}

-- i names are not w, and t is the rest behind them
pub record Placing (names w t : Text) (i : ℕ) : Type 0 where
  pub within : i + length t ≤ length names
  pub place : place_of (parts_behind comma names) w ≡ i + place_of (parts_behind comma t) w

-- a name is among others where its place is below their number
among_is : (ws : List Text) (w : Text) → among ws w ≡ ltb (place_of ws w) (length ws)
unfolding among place_of
among_is [] w = refl
among_is (x ∷ ws) w = go (same x w) (among_is ws w)
  where
    go : (p : Bool) → among ws w ≡ ltb (place_of ws w) (length ws) → (p || among ws w) ≡ ltb (cond p 0 (suc (place_of ws w))) (suc (length ws))
    go true ih = sym (lt-ltb 0 (suc (length ws)) (omega arith))
    go false ih = ih ∙ sym (leb-suc-suc (suc (place_of ws w)) (length ws))

-- no name is left
module _ (t : Text) (h : length t ≤ 0) where
  pub place_none : {names w : Text} {i : ℕ} → Placing names w t i → i ≡ place_of (parts_behind comma names) w
  unfolding place_of
  place_none p = let q = rw (behind_none comma t h) at p.place in omega arith

  pub good_none : {all : Bool} → every is_name (parts_behind comma t) ≡ all → true ≡ all
  unfolding every
  good_none left = rw (behind_none comma t h) at left

  pub repeat_none : {all : Bool} → no_repeat (parts_behind comma t) ≡ all → true ≡ all
  unfolding no_repeat
  repeat_none left = rw (behind_none comma t h) at left

module _ (t : Text) (h : 0 < length t) where
  pub after_shorter : (u : Text) → u ≡ after_part comma t → length u < length t
  after_shorter u e = rw e (omega (arith, behind_shorter comma t (omega arith)))

  -- r tells whether the first name passes its test
  module _ (x : Text) (r : Bool) (first : x ≡ head_d (parts_behind comma t) []) where
    module _ {names w : Text} {i : ℕ} (p : Placing names w t i) (is : r ≡ pointwise nat_eq x w) where
      pub place_here : r ≡ true → i ≡ place_of (parts_behind comma names) w
      unfolding place_of
      place_here e = let q = rw (behind_some comma t h, ← first, ← equal_is x w, ← is, e) at p.place in omega arith

      pub place_on : (u : Text) → r ≡ false → u ≡ after_part comma t → Placing names w u (i + 1)
      unfolding place_of
      place_on u e f =
          let q = rw (behind_some comma t h, ← first, ← equal_is x w, ← is, e, ← f) at p.place in
          record { within = omega (arith, p.within, after_shorter u f); place = omega arith }

    module _ {all : Bool} (left : every is_name (parts_behind comma t) ≡ all) (is : r ≡ is_name x) where
      pub good_not : not r ≡ true → false ≡ all
      unfolding every
      good_not e = rw (behind_some comma t h, ← first, ← is, not-true r e) at left

      pub good_on : (u : Text) → not r ≡ false → u ≡ after_part comma t → every is_name (parts_behind comma u) ≡ all
      unfolding every
      good_on u e f = rw (behind_some comma t h, ← first, ← is, not-false r e, ← f) at left

  -- p is the place of the first name among those behind it, and c how many they are
  module _ (x u : Text) (p c : ℕ) (first : x ≡ head_d (parts_behind comma t) []) (after : u ≡ after_part comma t)
      (at : p ≡ place_of (parts_behind comma u) x) (count : c ≡ commas_in u) {all : Bool} (left : no_repeat (parts_behind comma t) ≡ all) where
    again : among (parts_behind comma u) x ≡ ltb p c
    unfolding after_part
    again = among_is (parts_behind comma u) x ∙ rw (← at, count) (ap (λ (k : ℕ). ltb p k) (rw after (commas_names _)))

    pub repeat_here : p < c → false ≡ all
    unfolding no_repeat
    repeat_here l = rw (behind_some comma t h, ← first, ← after, again, lt-ltb p c l) at left

    pub repeat_on : c ≤ p → no_repeat (parts_behind comma u) ≡ all
    unfolding no_repeat
    repeat_on l = rw (behind_some comma t h, ← first, ← after, again, le-ltb p c l) at left

pub ruleset name_laws = (after_shorter, place_none, place_here, place_on, good_none, good_not, good_on, repeat_none, repeat_here, repeat_on)
