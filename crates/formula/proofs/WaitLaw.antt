-- The places that wait, as a list: one more stands before the others. Assumes nothing.
use mathlib.Core.Path.{◌≡◌, refl, ◌∙◌}
use Prim.Native.Nat.{ℕ, suc, ◌+◌, ◌-◌, ◌≤◌, ◌<◌}
use native.Mathlib.Omega.{arith}
use native.Mathlib.Numerals.{add-one}
use mathlib.Core.Bool.{Bool, true, false}
use mathlib.Core.List.{List, ◌∷◌, head_d, tail}
use lib.ListN.{length, drop, set, get_or, replicate, length-set}
use lib.Seq.{drop-cons, drop-set-lt, get_or-set_same, get_or-set_other, lt-length-set}
use lib.Dec.{eqb}
use borrow.Author.Tests.{eqb-true, eqb-false}
use Rattle.csl.specs.Limits.{most_nodes}
use Rattle.formula.specs.Nodes.{same_throughout}
use Rattle.formula.specs.Operands.{operands_of, AllBefore, OperandsBefore}
use Rattle.formula.specs.declared.nodes.Kind.{Kind}
use Rattle.formula.specs.declared.operands.Operands.{Operands}
use Rattle.formula.specs.declared.operands.Operands.TheVariants.{None, One, Two}
use Rattle.formula.specs.declared.waiting.Waiting.{Waiting}
use Rattle.formula.specs.Waiting.{waiting_room, waits, nothing_waits, wait_for, wait_for_all, wait_over}
use Rattle.formula.specs.Laying.{awaiting_all, awaiting}

-- one put in right before the end of a list
set_drop : (l : List ℕ) (i x : ℕ) → i < length l → drop i (set l i x) ≡ x ∷ drop (suc i) l
set_drop l i x h = drop-cons (set l i x) i 0 (lt-length-set l i x h) ∙ rw (get_or-set_same l i x 0 h, drop-set-lt (suc i) l i x (omega arith))

-- the first place alone
pub waits_first : (p : ℕ) → waits (wait_for p nothing_waits) ≡ p ∷ drop 65 (replicate waiting_room 0)
waits_first p = set_drop (replicate waiting_room 0) 64 p (omega arith)

-- room for all places, and each in the row
pub record Sound (w : Waiting) : Type 0 where
  pub room : length w.places ≡ waiting_room
  pub below : (k : ℕ) → get_or w.places k 0 < most_nodes

below_set : (l : List ℕ) (i x : ℕ) → ((k : ℕ) → get_or l k 0 < most_nodes) → x < most_nodes → i < length l → (k : ℕ) → get_or (set l i x) k 0 < most_nodes
below_set l i x b h r k = go (eqb k i) refl
  where
    go : (p : Bool) → eqb k i ≡ p → get_or (set l i x) k 0 < most_nodes
    go true e = let z : k ≡ i = eqb-true _ _ e in rw (z, get_or-set_same l i x 0 r) h
    go false e = rw (get_or-set_other l i k x 0 (eqb-false _ _ e)) (b k)

-- w has the places ps, from a place of its room on
pub record Waits (w : Waiting) (ps : List ℕ) (from : ℕ) : Type 0 where
  pub sound : Sound w
  pub are : waits w ≡ ps
  pub starts : w.from ≡ from

one_waits : (w : Waiting) (ps : List ℕ) (from p : ℕ) → Waits w ps from → 1 ≤ from → from ≤ waiting_room → p < most_nodes
    → Waits (wait_for p w) (p ∷ ps) (from - 1)
one_waits w ps from p a g h b =
    let l : w.from - 1 < length w.places = omega (arith, a.starts, a.sound.room) in
    let e : suc (w.from - 1) ≡ w.from = omega (arith, a.starts) in
    record {
      sound =
          record {
            room = length-set w.places (w.from - 1) p ∙ a.sound.room;
            below = below_set w.places (w.from - 1) p a.sound.below b l;
          };
      are = set_drop w.places (w.from - 1) p l ∙ rw (e, a.are);
      starts = omega (arith, a.starts);
    }

-- the first place, and the others without it
module _ (w : Waiting) (s : Sound w) (h : w.from < waiting_room) where
  pub next_is : head_d (waits w) 0 ≡ get_or w.places w.from 0
  unfolding head_d
  next_is = rw (drop-cons w.places w.from 0 (omega (arith, s.room)))

  pub next_waits : Waits (record { places = w.places; from = w.from + 1 }) (tail (waits w)) (w.from + 1)
  next_waits =
      record {
        sound = record { room = s.room; below = s.below };
        are = rw (add-one, drop-cons w.places w.from 0 (omega (arith, s.room)));
        starts = refl;
      }

-- a node's operands wait before the others, in at most two places more
pub record Awaits (w : Waiting) (ps : List ℕ) (from : ℕ) : Type 0 where
  pub sound : Sound w
  pub are : waits w ≡ ps
  pub low : from ≤ w.from + 2
  pub high : w.from ≤ from

module _ (w : Waiting) (ps : List ℕ) (from : ℕ) (a : Waits w ps from) (g : 2 ≤ from) (h : from ≤ waiting_room) where
  none_await : Awaits w ps from
  none_await = record { sound = a.sound; are = a.are; low = omega (arith, a.starts); high = omega (arith, a.starts) }

  one_awaits : (x : ℕ) → x < most_nodes → Awaits (wait_for x w) (x ∷ ps) from
  one_awaits x b =
      let o = one_waits w ps from x a (omega arith) h b in
      record { sound = o.sound; are = o.are; low = omega (arith, o.starts); high = omega (arith, o.starts) }

  two_await : (x y : ℕ) → x < most_nodes → y < most_nodes → Awaits (wait_for x (wait_for y w)) (x ∷ y ∷ ps) from
  two_await x y b d =
      let o = one_waits (wait_for y w) (y ∷ ps) (from - 1) x (one_waits w ps from y a (omega arith) h d) (omega arith) (omega arith) b in
      record { sound = o.sound; are = o.are; low = omega (arith, o.starts); high = omega (arith, o.starts) }

  all_await : (o : Operands) → AllBefore most_nodes o → Awaits (wait_for_all o w) (awaiting_all o ps) from
  all_await None b = none_await
  all_await (One x) b = one_awaits x b
  all_await (Two x y) b = two_await x y b.0 b.1

  pub operands_await : (k : Kind) → OperandsBefore most_nodes k → Awaits (wait_over k w) (awaiting k ps) from
  operands_await k b = all_await (operands_of k) b

-- r is w with the places of operands
pub wait_by_operands : (k : Kind) (w r : Waiting) (o x : Operands) → o ≡ operands_of k → o ≡ x → r ≡ wait_for_all x w → r ≡ wait_over k w
wait_by_operands k w r o x e f q = rw (← e, f) q

pub ruleset wait_laws = (wait_by_operands)

pub sound_first : (p : ℕ) → p < most_nodes → Sound (wait_for p nothing_waits)
sound_first p h =
    record {
      room = length-set (replicate waiting_room 0) 64 p;
      below = below_set (replicate waiting_room 0) 64 p (λ k. rw (same_throughout {A = ℕ} waiting_room k 0) (omega arith)) h (omega arith);
    }
