-- A list that is filled from a place on: n entries from p on are those of a function, and all else is as it was. Assumes nothing.
use Rattle.std.specs.Prelude.{◌≡◌, refl, List, ◌∷◌, [], ◌++◌, Bool, true, false, cond, ℕ, zero, suc, ◌+◌, ◌-◌, ◌≤◌, ◌<◌, ltb, eqb, length, get_or, set, drop, replicate}
use Rattle.std.proofs.Common.{ap, sym, ◌∙◌, arith, zero-add, length-set, length-append, length-drop, get_or-set_same, get_or-set_other, get_or-drop, get_or-append-add, ext_get_or, below_more, ltb-true, ltb-false, eqb-true}
use Rattle.std.proofs.Math.ListN.{get_or-append}
use Rattle.std.proofs.lemmas.Bool.{eqb-false}
use Rattle.csl.specs.Lent.{column, written}

-- the word at a place of a list, 0 beyond its end
abbrev pub at : List ℕ → ℕ → ℕ
at l k = get_or l k 0

-- the numbers from p on, once x is added to one of them
pub added_at : (l : List ℕ) (p s x : ℕ) → p + s < length l → (t : ℕ) → at (set l (p + s) (at l (p + s) + x)) (p + t) ≡ at l (p + t) + cond (eqb s t) x 0
added_at l p s x h t = go (eqb s t) refl
  where
    go : (b : Bool) → eqb s t ≡ b → at (set l (p + s) (at l (p + s) + x)) (p + t) ≡ at l (p + t) + cond b x 0
    go true e = rw (← eqb-true s t e) (get_or-set_same l (p + s) (at l (p + s) + x) 0 h)
    go false e =
        let d : s ≡ t → ⊥ = eqb-false s t e in
        get_or-set_other l (p + s) (p + t) (at l (p + s) + x) 0 (omega arith) ∙ omega arith

pub record Filled (f : ℕ → ℕ) (p n : ℕ) (old new : List ℕ) : Type 0 where
  pub same : length new ≡ length old
  pub filled : (k : ℕ) → k < n → at new (p + k) ≡ f k
  pub before : (k : ℕ) → k < p → at new k ≡ at old k
  pub after : (k : ℕ) → p + n ≤ k → at new k ≡ at old k

-- nothing yet, one entry more, all of them
pub filled_none : (f : ℕ → ℕ) (p : ℕ) (l : List ℕ) → Filled f p 0 l l
filled_none f p l = record { same = refl; filled = λ k h. absurd (omega arith); before = λ k h. refl; after = λ k h. refl }

pub filled_more : {f : ℕ → ℕ} {p n : ℕ} {old l : List ℕ} (v : ℕ) → Filled f p n old l → p + n < length l → v ≡ f n
    → Filled f p (n + 1) old (set l (p + n) v)
filled_more {f} {p} {n} {old} {l} v t h e =
    record {
      same = length-set l (p + n) v ∙ t.same;
      filled = below_more _ n (λ k b. get_or-set_other l (p + n) (p + k) v 0 (omega arith) ∙ t.filled k b) (get_or-set_same l (p + n) v 0 h ∙ e);
      before = λ k b. get_or-set_other l (p + n) k v 0 (omega arith) ∙ t.before k b;
      after = λ k b. get_or-set_other l (p + n) k v 0 (omega arith) ∙ t.after k (omega arith);
    }

pub filled_done : {f : ℕ → ℕ} {p i n : ℕ} {old l : List ℕ} → Filled f p i old l → i ≤ n → n ≤ i → Filled f p n old l
filled_done {i = i} {n = n} t h k = let e : i ≡ n = omega arith in rw e at t

pub filled_same : {f : ℕ → ℕ} {p n : ℕ} {old l : List ℕ} → Filled f p n old l → length l ≡ length old
filled_same t = t.same

pub ruleset filled_laws = (filled_none, filled_more, filled_done, filled_same)

-- by a function that is the same on the n entries
pub filled_as : {f : ℕ → ℕ} {p n : ℕ} {old l : List ℕ} (g : ℕ → ℕ) → ((k : ℕ) → k < n → f k ≡ g k) → Filled f p n old l → Filled g p n old l
filled_as g h t = record { same = t.same; filled = λ k b. t.filled k b ∙ h k b; before = t.before; after = t.after }

-- a word that is among those filled, by its own place, and one that is not
pub filled_at : {f : ℕ → ℕ} {p n : ℕ} {old l : List ℕ} → Filled f p n old l → (k : ℕ) → p ≤ k → k < p + n → at l k ≡ f (k - p)
filled_at {p = p} {l = l} t k h b = let e : p + (k - p) ≡ k = omega arith in ap (at l) (sym e) ∙ t.filled (k - p) (omega arith)

pub filled_else : {f : ℕ → ℕ} {p n : ℕ} {old l : List ℕ} → Filled f p n old l → (k : ℕ) → (p ≤ k → k < p + n → ⊥) → at l k ≡ at old k
filled_else {f} {p} {n} {old} {l} t k h = go (ltb k p) refl
  where
    go : (b : Bool) → ltb k p ≡ b → at l k ≡ at old k
    go true e = t.before k (ltb-true k p e)
    go false e = t.after k (let i : p ≤ k = ltb-false k p e in let j : k < p + n → ⊥ = h i in omega arith)

-- Two columns, as one loop fills them: n entries from p on are those of f, n from r on those of g, and all else is as it was.
pub record Twin (f g : ℕ → ℕ) (p r n : ℕ) (old new : List ℕ) : Type 0 where
  pub same : length new ≡ length old
  pub first : (k : ℕ) → k < n → at new (p + k) ≡ f k
  pub second : (k : ℕ) → k < n → at new (r + k) ≡ g k
  pub else : (k : ℕ) → (p ≤ k → k < p + n → ⊥) → (r ≤ k → k < r + n → ⊥) → at new k ≡ at old k

pub twin_none : (f g : ℕ → ℕ) (p r : ℕ) (l : List ℕ) → Twin f g p r 0 l l
twin_none f g p r l =
    record { same = refl; first = λ k h. absurd (omega arith); second = λ k h. absurd (omega arith); else = λ k a b. refl }

pub twin_more : {f g : ℕ → ℕ} {p r s : ℕ} {old l : List ℕ} (x y : ℕ) → Twin f g p r s old l → p + s < r → r + s < length l → x ≡ f s → y ≡ g s
    → Twin f g p r (s + 1) old (set (set l (p + s) x) (r + s) y)
twin_more {f} {g} {p} {r} {s} {old} {l} x y t d h e i =
    let other : (k : ℕ) → (k ≡ p + s → ⊥) → (k ≡ r + s → ⊥) → at (set (set l (p + s) x) (r + s) y) k ≡ at l k =
    λ k a b. get_or-set_other (set l (p + s) x) (r + s) k y 0 b ∙ get_or-set_other l (p + s) k x 0 a in
    record {
      same = length-set (set l (p + s) x) (r + s) y ∙ length-set l (p + s) x ∙ t.same;
      first = below_more _ s
          (λ k b. other (p + k) (omega arith) (omega arith) ∙ t.first k b)
          (get_or-set_other (set l (p + s) x) (r + s) (p + s) y 0 (omega arith) ∙ get_or-set_same l (p + s) x 0 (omega arith) ∙ e);
      second = below_more _ s
          (λ k b. other (r + k) (omega arith) (omega arith) ∙ t.second k b)
          (get_or-set_same (set l (p + s) x) (r + s) y 0 (rw (length-set l (p + s) x) h) ∙ i);
      else = λ k a b. other k (λ z. a (omega arith) (omega arith)) (λ z. b (omega arith) (omega arith))
          ∙ t.else k (λ u w. a u (omega arith)) (λ u w. b u (omega arith));
    }

pub twin_done : {f g : ℕ → ℕ} {p r i n : ℕ} {old l : List ℕ} → Twin f g p r i old l → i ≤ n → n ≤ i → Twin f g p r n old l
twin_done {i = i} {n = n} t h k = let e : i ≡ n = omega arith in rw e at t

-- From the front: a table.
abbrev pub Table : (ℕ → ℕ) → (old new : List ℕ) → ℕ → Type 0
Table f old new n = Filled f 0 n old new

pub table_none : (f : ℕ → ℕ) (l : List ℕ) → Table f l l 0
table_none f l = filled_none f 0 l

pub table_more : {f : ℕ → ℕ} {old l : List ℕ} {n : ℕ} (v : ℕ) → Table f old l n → n < length l → v ≡ f n → Table f old (set l n v) (n + 1)
table_more {f} {old} {l} {n} v t h e = rw (zero-add n) at (filled_more v t (omega arith) e)

pub table_done : {f : ℕ → ℕ} {old l : List ℕ} {i n : ℕ} → Table f old l i → i ≤ n → n ≤ i → Table f old l n
table_done t h k = filled_done t h k

pub ruleset table_laws = (table_none, table_more, table_done, filled_same)

pub table_at : {f : ℕ → ℕ} {old l : List ℕ} {n : ℕ} → Table f old l n → (k : ℕ) → k < n → at l k ≡ f k
table_at {l = l} t k h = ap (at l) (sym (zero-add k)) ∙ t.filled k h

pub table_rest : {f : ℕ → ℕ} {old l : List ℕ} {n : ℕ} → Table f old l n → (k : ℕ) → n ≤ k → at l k ≡ at old k
table_rest t k h = t.after k (omega arith)

-- a list by its entries
pub table : {f : ℕ → ℕ} {old l : List ℕ} {n : ℕ} → length l ≡ length old → ((k : ℕ) → k < n → at l k ≡ f k) → ((k : ℕ) → n ≤ k → at l k ≡ at old k)
    → Table f old l n
table {l = l} e h r =
    record { same = e; filled = λ k b. ap (at l) (zero-add k) ∙ h k b; before = λ k b. absurd (omega arith); after = λ k b. r k (omega arith) }

-- The definition's buffer whose first numbers are written over is such a table, and the only one.
pub column_length : (f : ℕ → ℕ) (n : ℕ) → length (column f n) ≡ n
unfolding column
column_length f zero = refl
column_length f (suc n) = length-append (column f n) (f n ∷ []) ∙ omega (arith, column_length f n)

pub column_at : (f : ℕ → ℕ) (n k : ℕ) → k < n → at (column f n) k ≡ f k
unfolding column
column_at f zero k h = absurd (omega arith)
column_at f (suc n) k h = go (ltb k n) refl (column_at f n k)
  where
    go : (b : Bool) → ltb k n ≡ b → (k < n → at (column f n) k ≡ f k) → at (column f n ++ (f n ∷ [])) k ≡ f k
    go true e r = get_or-append (column f n) (f n ∷ []) 0 k (omega (arith, column_length f n, ltb-true k n e)) ∙ r (ltb-true k n e)
    go false e r =
        let z : k ≡ length (column f n) + 0 = omega (arith, column_length f n, ltb-false k n e) in
        let y : n ≡ k = omega (arith, ltb-false k n e) in
        ap (at (column f n ++ (f n ∷ []))) z ∙ get_or-append-add (column f n) (f n ∷ []) 0 0 ∙ ap f y

pub written_table : (f : ℕ → ℕ) (n : ℕ) (old : List ℕ) → n ≤ length old → Table f old (written (column f n) old) n
unfolding written
written_table f n old h =
    table (omega (arith, length-append (column f n) (drop (length (column f n)) old), length-drop (length (column f n)) old, column_length f n))
    (λ k b. get_or-append (column f n) (drop (length (column f n)) old) 0 k (omega (arith, column_length f n)) ∙ column_at f n k b)
    (λ k b.
    let z : length (column f n) + (k - n) ≡ k = omega (arith, column_length f n) in
    ap (at (column f n ++ drop (length (column f n)) old)) (sym z)
    ∙ get_or-append-add (column f n) (drop (length (column f n)) old) (k - n) 0
    ∙ get_or-drop (length (column f n)) old (k - n) 0
    ∙ ap (at old) z)

-- two tables of one function over one list are one list
table_only : {f : ℕ → ℕ} {old l l' : List ℕ} {n : ℕ} → Table f old l n → Table f old l' n → l ≡ l'
table_only {f} {old} {l} {l'} {n} t u = ext_get_or 0 l l' (t.same ∙ sym u.same) (λ k b. go k (ltb k n) refl)
  where
    go : (k : ℕ) (b : Bool) → ltb k n ≡ b → at l k ≡ at l' k
    go k true e = table_at t k (ltb-true k n e) ∙ sym (table_at u k (ltb-true k n e))
    go k false e = table_rest t k (ltb-false k n e) ∙ sym (table_rest u k (ltb-false k n e))

pub table_written : {f : ℕ → ℕ} {old l : List ℕ} {n : ℕ} → n ≤ length old → Table f old l n → l ≡ written (column f n) old
table_written {f} {old} {n = n} h t = table_only t (written_table f n old h)

-- zeros
replicate_snoc : (n : ℕ) → replicate {A = ℕ} (suc n) 0 ≡ replicate {A = ℕ} n 0 ++ (0 ∷ [])
replicate_snoc zero = refl
replicate_snoc (suc n) = ap (λ (l : List ℕ). 0 ∷ l) (replicate_snoc n)

column_zeros : (n : ℕ) → column (λ _. 0) n ≡ replicate n 0
unfolding column
column_zeros zero = refl
column_zeros (suc n) = rw (column_zeros n) (sym (replicate_snoc n))

pub zeros_written : {old l : List ℕ} {n : ℕ} → n ≤ length old → Table (λ _. 0) old l n → l ≡ written (replicate n 0) old
zeros_written {n = n} h t = rw (← column_zeros n) (table_written h t)

pub zeros_at : (n : ℕ) (old : List ℕ) (k : ℕ) → k < n → at (written (replicate n 0) old) k ≡ 0
unfolding written
zeros_at n old k h =
    rw (← column_zeros n)
    (get_or-append (column (λ _. 0) n) (drop (length (column (λ _. 0) n)) old) 0 k (omega (arith, column_length (λ _. 0) n)) ∙ column_at (λ _. 0) n k h)
