-- The tokens of a formula, laid one by one, are its nodes in a row. Assumes nothing.
use mathlib.Core.Path.{◌≡◌, refl, sym, ◌∙◌, ap}
use Prim.Native.Nat.{ℕ, zero, suc, ◌+◌, ◌-◌, ◌≤◌}
use native.Mathlib.Omega.{arith}
use mathlib.Core.List.{List, [], ◌∷◌, ◌++◌, head_d, tail}
use lib.ListN.{length, drop, set, replicate, length-append}
use Rattle.std.specs.Prelude.{Some, None}
use Rattle.csl.specs.Text.{Text}
use Rattle.csl.specs.Limits.{most_nodes}
use Rattle.csl.specs.Formula.{Formula, always, label, negated, both, chance, until, next_move, between, nodes, nodes_in}
use Rattle.csl.specs.Grammar.{Found, nothing, found, and_then, single, pair, Head, truth, name, bang, ampersand, chances, other, head_of, state, read_state}
use Rattle.grammar.specs.Left.{Leaves, left, last_length}
use Rattle.grammar.specs.Fixed.{read, read_next, read_leaves}
use Rattle.grammar.specs.declared.path_start.PathStart.TheVariants.{Until, Next, Between}
use Rattle.formula.specs.Nodes.{blank}
use Rattle.formula.specs.Listed.{kind_held, listed, listed_in, stored}
use Rattle.formula.specs.Stands.{length_listed}
use Rattle.formula.specs.Laying.{nodes_found, nodes_behind, nodes_second, hollow, behind_two, top_kind, behind_own, awaiting, laying, laid}
use Rattle.formula.proofs.TopLaw.{ChanceAt, broken, bounded, chance_at}
use Rattle.formula.proofs.PutLaw.{put, put_append, put_last, put_start}
use Rattle.formula.specs.Waiting.{waiting_room}
use Rattle.formula.proofs.WaitLaw.{waits_first}
use Rattle.formula.specs.declared.nodes.Kind.{Kind}

module _ (names : List Text) where
  -- f and the tokens behind it are read from ts: where the place of f's own node waits first, its nodes are put from place b on
  abbrev Lays : List Text → Formula → List Text → Type 0
  Lays ts f rest = (k b : ℕ) (p : List ℕ) (ns : List Kind)
      → laying names (k + nodes f) ((b + nodes f - 1) ∷ p) ts ns ≡ laying names k p rest (put b (listed names f b) ns)

  -- so it is for all tokens of at most that number
  abbrev Upto : ℕ → Type 0
  Upto m = (ts : List Text) → length ts ≤ m → (f : Formula) (rest : List Text) → read ts ≡ found f rest → Lays ts f rest

  one_shorter : (ts : List Text) → length (tail ts) ≤ length ts
  one_shorter [] = omega arith
  one_shorter (w ∷ ts) = omega arith

  two_shorter : (ts : List Text) → length (behind_two ts) ≤ length ts
  two_shorter ts = omega (arith, one_shorter (tail ts), one_shorter ts)

  -- one node, put at the place that waits first
  one_node : (w : Text) (ts : List Text) (k i : ℕ) (p : List ℕ) (ns : List Kind)
      → laying names (suc k) (i ∷ p) (w ∷ ts) ns
      ≡ laying names k (awaiting (top_kind names i w ts) p) (behind_own (top_kind names i w ts) ts) (set ns i (top_kind names i w ts))
  unfolding laying head_d
  one_node w ts k i p ns = refl

  -- a node over one operand, which begins the tokens us behind its own
  over_one_lem : (m : ℕ) → Upto m → (w : Text) (ts us : List Text) → length us ≤ m → (f a : Formula) (rest : List Text)
      → nodes f ≡ 1 + nodes a
      → ((b : ℕ) → listed names f b ≡ listed names a b ++ (kind_held names (b + nodes a) (nodes a) f ∷ []))
      → ((j : ℕ) → top_kind names j w ts ≡ kind_held names j (nodes a) f)
      → ((j : ℕ) → behind_own (kind_held names j (nodes a) f) ts ≡ us)
      → ((j : ℕ) (p : List ℕ) → awaiting (kind_held names j (nodes a) f) p ≡ (j - 1) ∷ p)
      → read us ≡ found a rest → Lays (w ∷ ts) f rest
  over_one_lem m ih w ts us h f a rest size row top own one_waits q k b p ns =
      let s : k + nodes f ≡ suc (k + nodes a) = omega arith in
      let t : b + nodes f - 1 ≡ b + nodes a = omega arith in
      rw (
        s,
        t,
        one_node,
        top,
        own,
        one_waits,
        ih us h a rest q k b p _,
        row,
        put_last (listed names a b) _ b (b + nodes a) ns (omega (arith, length_listed names a b)),
      )

  -- a node over two operands, the first of which begins the tokens us behind its own
  over_two_lem : (m : ℕ) → Upto m → (w : Text) (ts us : List Text) → length us ≤ m → (f a c : Formula) (more rest : List Text)
      → nodes f ≡ 1 + (nodes a + nodes c)
      → ((b : ℕ) → listed names f b
      ≡ (listed names a b ++ listed names c (b + nodes a)) ++ (kind_held names (b + (nodes a + nodes c)) (nodes c) f ∷ []))
      → ((j : ℕ) → top_kind names j w ts ≡ kind_held names j (nodes c) f)
      → ((j : ℕ) → behind_own (kind_held names j (nodes c) f) ts ≡ us)
      → ((j : ℕ) (p : List ℕ) → awaiting (kind_held names j (nodes c) f) p ≡ (j - suc (nodes c)) ∷ (j - 1) ∷ p)
      → read us ≡ found a more → length more ≤ m → read more ≡ found c rest → Lays (w ∷ ts) f rest
  over_two_lem m ih w ts us h f a c more rest size row top own both-wait q l r k b p ns =
      let i = b + (nodes a + nodes c) in
      let s : k + nodes f ≡ suc (k + nodes c + nodes a) = omega arith in
      let t : b + nodes f - 1 ≡ i = omega arith in
      let x : i - suc (nodes c) ≡ b + nodes a - 1 = omega arith in
      let y : i - 1 ≡ b + nodes a + nodes c - 1 = omega arith in
      let u : b + length (listed names a b ++ listed names c (b + nodes a)) ≡ i
      = simp (length-append, length_listed names a b, length_listed names c (b + nodes a)) in
      rw (
        s,
        t,
        one_node,
        top,
        own,
        both-wait,
        x,
        y,
        ih us h a more q (k + nodes c) b _ _,
        ih more l c rest r k (b + nodes a) p _,
        row,
        ← put_last (listed names a b ++ listed names c (b + nodes a)) _ b i ns u,
        put_append (listed names a b) (listed names c (b + nodes a)) b _,
        length_listed names a b,
      )

  -- so for each that csl's `single` makes of one operand, and its `pair` of two
  module _ (m : ℕ) (ih : Upto m) (w : Text) (ts us : List Text) (h : length us ≤ m) (make : Formula → Formula)
      (size : (a : Formula) → nodes (make a) ≡ 1 + nodes a)
      (row : (a : Formula) (b : ℕ) → listed names (make a) b ≡ listed names a b ++ (kind_held names (b + nodes a) (nodes a) (make a) ∷ []))
      (top : (a : Formula) (j : ℕ) → top_kind names j w ts ≡ kind_held names j (nodes a) (make a))
      (own : (a : Formula) (j : ℕ) → behind_own (kind_held names j (nodes a) (make a)) ts ≡ us)
      (one_waits : (a : Formula) (j : ℕ) (p : List ℕ) → awaiting (kind_held names j (nodes a) (make a)) p ≡ (j - 1) ∷ p) where
    single_lays : (f : Formula) (rest : List Text) → single read make us ≡ found f rest → Lays (w ∷ ts) f rest
    unfolding single and_then
    single_lays f rest p = go (read us) refl p
      where
        go : (fd : Found) → read us ≡ fd → and_then fd (λ a r. found (make a) r) ≡ found f rest → Lays (w ∷ ts) f rest
        go nothing q p = let z : ◌≡◌ {A = ℕ} 0 1 = cc in absurd (omega arith)
        go (found a end) q p =
            let x : make a ≡ f = cc in
            let y : end ≡ rest = cc in
            rw (← x, ← y) (over_one_lem m ih w ts us h (make a) a end (size a) (row a) (top a) (own a) (one_waits a) q)

  module _ (m : ℕ) (ih : Upto m) (w : Text) (ts us : List Text) (h : length us ≤ m) (make : Formula → Formula → Formula)
      (size : (a c : Formula) → nodes (make a c) ≡ 1 + (nodes a + nodes c))
      (row : (a c : Formula) (b : ℕ)
      → listed names (make a c) b
      ≡ (listed names a b ++ listed names c (b + nodes a)) ++ (kind_held names (b + (nodes a + nodes c)) (nodes c) (make a c) ∷ []))
      (top : (a c : Formula) (j : ℕ) → nodes_second us ≡ nodes c → top_kind names j w ts ≡ kind_held names j (nodes c) (make a c))
      (own : (a c : Formula) (j : ℕ) → behind_own (kind_held names j (nodes c) (make a c)) ts ≡ us)
      (both-wait : (a c : Formula) (j : ℕ) (p : List ℕ)
      → awaiting (kind_held names j (nodes c) (make a c)) p ≡ (j - suc (nodes c)) ∷ (j - 1) ∷ p) where
    second_lays : (a : Formula) (more : List Text) → read us ≡ found a more → length more ≤ m → (fd : Found) → read more ≡ fd
        → (f : Formula) (rest : List Text) → and_then fd (λ c r. found (make a c) r) ≡ found f rest → Lays (w ∷ ts) f rest
    unfolding and_then
    second_lays a more q k nothing r f rest p = let z : ◌≡◌ {A = ℕ} 0 1 = cc in absurd (omega arith)
    second_lays a more q k (found c end) r f rest p =
        let x : make a c ≡ f = cc in
        let y : end ≡ rest = cc in
        let n : nodes_second us ≡ nodes c = ap nodes_behind q ∙ ap nodes_found r in
        rw (← x, ← y)
        (over_two_lem m ih w ts us h (make a c) a c more end (size a c) (row a c) (λ j. top a c j n) (own a c) (both-wait a c) q k r)

    pair_lays : (f : Formula) (rest : List Text) → pair read make us ≡ found f rest → Lays (w ∷ ts) f rest
    unfolding pair and_then
    pair_lays f rest p = go (read us) refl (read_leaves us) p
      where
        go : (fd : Found) → read us ≡ fd → Leaves us fd → and_then fd (λ a more. and_then (read more) λ c r. found (make a c) r) ≡ found f rest
            → Lays (w ∷ ts) f rest
        go nothing q l p = let z : ◌≡◌ {A = ℕ} 0 1 = cc in absurd (omega arith)
        go (found a more) q (left l) p = second_lays a more q (omega (arith, last_length l)) (read more) refl f rest p

  -- a node of each kind
  module _ (m : ℕ) (ih : Upto m) (w : Text) (ts : List Text) (h : length ts ≤ m) (f : Formula) (rest : List Text) where
    leaf_lays : (g : Formula) → nodes g ≡ 1 → ((b : ℕ) → listed names g b ≡ top_kind names b w ts ∷ [])
        → ((b : ℕ) → behind_own (top_kind names b w ts) ts ≡ ts) → ((b : ℕ) (p : List ℕ) → awaiting (top_kind names b w ts) p ≡ p)
        → found g ts ≡ found f rest → Lays (w ∷ ts) f rest
    unfolding put
    leaf_lays g size row own none-wait q =
        let x : g ≡ f = cc in
        let y : ts ≡ rest = cc in
        rw (← x, ← y) λ k b p ns.
        let s : k + nodes g ≡ suc k = omega arith in
        let t : b + nodes g - 1 ≡ b = omega arith in
        rw (s, t, one_node, own, none-wait, row)

    chance_lays : head_of w ≡ chances → state read w chances ts ≡ found f rest → ChanceAt ts → Lays (w ∷ ts) f rest
    unfolding nodes nodes_in listed listed_in single pair and_then
    chance_lays e p (broken b) = let q = b read w in let z : ◌≡◌ {A = ℕ} 0 1 = cc in absurd (omega arith)
    chance_lays e p (bounded c l None b) = let q = b read w in let z : ◌≡◌ {A = ℕ} 0 1 = cc in absurd (omega arith)
    chance_lays e p (bounded c l (Some Next) b) =
        let us = tail (behind_two ts) in
        let k : length us ≤ m = omega (arith, one_shorter (behind_two ts), two_shorter ts) in
        single_lays m ih w ts us k (λ x. chance c l (next_move x)) (λ x. refl) (λ x b. refl) (λ x j. rw (e, b hollow [])) (λ x j. refl)
        (λ x j q. refl) f rest (sym (b read w) ∙ p)
    chance_lays e p (bounded c l (Some (Until t)) b) =
        let us = behind_two (behind_two ts) in
        let k : length us ≤ m = omega (arith, two_shorter (behind_two ts), two_shorter ts) in
        pair_lays m ih w ts us k (λ x y. chance c l (until t x y)) (λ x y. refl) (λ x y b. refl) (λ x y j n. rw (e, b hollow [], n))
        (λ x y j. refl) (λ x y j q. refl) f rest (sym (b read w) ∙ p)
    chance_lays e p (bounded c l (Some (Between t v)) b) =
        let us = tail (behind_two (behind_two ts)) in
        let k : length us ≤ m = omega (arith, one_shorter (behind_two (behind_two ts)), two_shorter (behind_two ts), two_shorter ts) in
        pair_lays m ih w ts us k (λ x y. chance c l (between t v x y)) (λ x y. refl) (λ x y b. refl) (λ x y j n. rw (e, b hollow [], n))
        (λ x y j. refl) (λ x y j q. refl) f rest (sym (b read w) ∙ p)

    head_lays : (hd : Head) → head_of w ≡ hd → state read w hd ts ≡ found f rest → Lays (w ∷ ts) f rest
    unfolding state nodes listed
    head_lays truth e p = leaf_lays always refl (λ b. rw e) (λ b. rw e) (λ b q. rw e) p
    head_lays name e p = leaf_lays (label w) refl (λ b. rw e) (λ b. rw e) (λ b q. rw e) p
    head_lays bang e p = single_lays m ih w ts ts h negated (λ x. refl) (λ x b. refl) (λ x j. rw e) (λ x j. refl) (λ x j q. refl) f rest p
    head_lays ampersand e p =
        pair_lays m ih w ts ts h both (λ x y. refl) (λ x y b. refl) (λ x y j n. rw (e, n)) (λ x y j. refl) (λ x y j q. refl) f rest p
    head_lays chances e p = chance_lays e p (chance_at ts)
    head_lays other e p = let z : ◌≡◌ {A = ℕ} 0 1 = cc in absurd (omega arith)

  read_empty : (f : Formula) (rest : List Text) → read [] ≡ found f rest → ⊥
  unfolding read read_state
  read_empty f rest q = let z : ◌≡◌ {A = ℕ} 0 1 = cc in omega arith

  lays : (m : ℕ) → Upto m
  unfolding head_d
  lays zero [] h f rest q = absurd (read_empty f rest q)
  lays zero (w ∷ ts) h f rest q = absurd (omega arith)
  lays (suc m) [] h f rest q = absurd (read_empty f rest q)
  lays (suc m) (w ∷ ts) h f rest q = head_lays m (lays m) w ts (omega arith) f rest (head_of w) refl (sym (read_next (w ∷ ts)) ∙ q)

  -- the row laid from all tokens of a formula is the formula's
  pub laid_stored : (ts : List Text) (f : Formula) → nodes f ≤ most_nodes → read ts ≡ found f [] → laid names (nodes f) ts ≡ stored names f
  unfolding laid stored laying
  laid_stored ts f l q =
      let e : 0 + nodes f ≡ nodes f = omega arith in
      let n : most_nodes ≡ length (listed names f 0) + (most_nodes - nodes f) = omega (arith, length_listed names f 0) in
      let row = rw e at (lays (length ts) ts (omega arith) f [] q 0 0 (drop 65 (replicate waiting_room 0)) (replicate most_nodes blank)) in
      let all = ap (λ (k : ℕ). put 0 (listed names f 0) (replicate k blank)) n ∙ put_start (listed names f 0) blank (most_nodes - nodes f) in
      ap (λ (x : List Kind). record { nodes = x; count = nodes f }) (rw (waits_first (nodes f - 1)) (row ∙ all))
