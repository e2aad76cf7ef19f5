-- One node more is laid, at the place that waits first. Assumes nothing.
use mathlib.Core.Path.{◌≡◌, refl, sym, ◌∙◌}
use Prim.Native.Nat.{ℕ, zero, suc, ◌+◌, ◌-◌, ◌≤◌, ◌<◌}
use native.Mathlib.Omega.{arith}
use mathlib.Core.List.{List, [], ◌∷◌, head_d, tail}
use lib.ListN.{length, set, get_or, replicate, length-set}
use Rattle.csl.specs.Text.{Text}
use Rattle.csl.specs.Limits.{most_nodes}
use Rattle.csl.specs.Line.{space, parts}
use Rattle.texts.specs.Behind.{behind_first, after_part, parts_first, behind_tail}
use Rattle.grammar.specs.Tokens.{tokens}
use Rattle.formula.specs.declared.nodes.Kind.{Kind}
use Rattle.formula.specs.declared.nodes.Nodes.{Nodes}
use Rattle.formula.specs.declared.waiting.Waiting.{Waiting}
use Rattle.formula.specs.Nodes.{blank}
use Rattle.formula.specs.Waiting.{waiting_room, waits, nothing_waits, wait_for, wait_over}
use Rattle.formula.specs.Laying.{top_kind, behind_own, awaiting, laying, laid}
use Rattle.formula.proofs.KindLaw.{top_below}
use Rattle.formula.proofs.WaitLaw.{Sound, sound_first, next_is, next_waits, operands_await}

-- What is laid, what waits, and what is still to lay: the next node's first token is w, and s the rest behind it.
pub record Underway (names : List Text) (count : ℕ) (ts : List Text) (row : Nodes) (waiting : Waiting) (w s : Text) (left : ℕ) : Type 0 where
  pub long : length row.nodes ≡ most_nodes
  pub counted : row.count ≡ count
  pub sound : Sound waiting
  pub low : left ≤ waiting.from
  pub high : waiting.from + left ≤ waiting_room
  pub same : laying names left (waits waiting) (w ∷ tokens s) row.nodes
      ≡ laying names count (waits (wait_for (count - 1) nothing_waits)) ts (replicate most_nodes blank)

module _ (names : List Text) where
  -- where there is no token, an empty one is laid
  some_laying : (k : ℕ) (ps : List ℕ) (ts : List Text) (ns : List Kind) → laying names k ps (head_d ts [] ∷ tail ts) ns ≡ laying names k ps ts ns
  unfolding laying head_d
  some_laying zero ps ts ns = refl
  some_laying (suc k) ps ts ns = refl

  one_laid : (k : ℕ) (ps : List ℕ) (w : Text) (ts : List Text) (ns : List Kind) (i : ℕ) (kd : Kind) → head_d ps 0 ≡ i → kd ≡ top_kind names i w ts
      → laying names k (awaiting kd (tail ps)) (behind_own kd ts) (set ns i kd) ≡ laying names (suc k) ps (w ∷ ts) ns
  unfolding laying head_d
  one_laid k ps w ts ns i kd e f = rw (f, ← e)

  pub lay_start : (count left : ℕ) (line w s : Text) (p : ℕ) (waiting : Waiting) → left ≡ count → count ≤ most_nodes → p ≡ count - 1 → waiting ≡ wait_for p nothing_waits
      → w ≡ head_d (parts space line) [] → s ≡ behind_first space line
      → Underway names count (parts space line) (record { nodes = replicate most_nodes blank; count = count }) waiting w s left
  unfolding head_d
  lay_start count left line w s p waiting l h q v e f =
      rw (l, v, q)
      (record {
        long = refl;
        counted = refl;
        sound = sound_first (count - 1) (omega arith);
        low = omega arith;
        high = omega arith;
        same = rw (e, f, parts_first);
      })

  module _ (count : ℕ) (ts : List Text) (row : Nodes) (waiting : Waiting) (w s : Text) (left : ℕ)
      (u : Underway names count ts row waiting w s left) where
    pub lay_room : 0 < left → waiting.from < waiting_room
    lay_room h = omega (arith, u.high)

    pub lay_place : (i : ℕ) → i ≡ get_or waiting.places waiting.from 0 → i < most_nodes
    lay_place i e = rw e (u.sound.below waiting.from)

    -- the k at the place i, and behind its own tokens the rest, in it v and t
    pub lay_on : (i : ℕ) (k : Kind) (fewer more : Waiting) (rest v t : Text) (after : ℕ) → after + 1 ≡ left
        → i ≡ get_or waiting.places waiting.from 0 → fewer ≡ record { places = waiting.places; from = waiting.from + 1 }
        → k ≡ top_kind names i w (tokens s) → more ≡ wait_over k fewer
        → tokens rest ≡ behind_own k (tokens s) → v ≡ head_d (tokens rest) [] → t ≡ after_part space rest
        → Underway names count ts (record { nodes = set row.nodes i (k); count = row.count }) more v t after
    lay_on i k fewer more rest v t after h e d f g o x y =
        let room : waiting.from < waiting_room = lay_room (omega arith) in
        let fits = rw (← f) at (top_below names i w (tokens s) (lay_place i e)) in
        let a = operands_await _ _ (waiting.from + 1) (next_waits waiting u.sound room) (omega (arith, u.low)) (omega arith) k fits in
        let z : suc after ≡ left = omega arith in
        rw (g, d, x, y)
        (record {
          long = length-set row.nodes i (k) ∙ u.long;
          counted = u.counted;
          sound = a.sound;
          low = omega (arith, u.low, a.low);
          high = omega (arith, u.high, a.high);
          same =
              rw (a.are, ← behind_tail, some_laying, o)
              (one_laid after (waits waiting) w (tokens s) row.nodes i k (next_is waiting u.sound room ∙ sym e) f ∙ rw z u.same);
        })

    pub lay_done : left ≤ 0 → row ≡ laid names count ts
    unfolding laid laying
    lay_done h =
        let e : left ≡ 0 = omega arith in
        let f = rw e at u.same in
        rw (← f, ← u.counted)

pub ruleset lay_laws = (lay_start, lay_room, lay_place, lay_on, lay_done)
