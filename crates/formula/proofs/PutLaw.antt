-- Nodes put into a row from a place on, one by one or the last first. Assumes nothing.
use mathlib.Core.Path.{◌≡◌, refl, sym, ◌∙◌, ap}
use Prim.Native.Nat.{ℕ, zero, suc, ◌+◌, ◌≤◌}
use native.Mathlib.Omega.{arith}
use mathlib.Core.List.{List, [], ◌∷◌, ◌++◌, append_assoc}
use lib.ListN.{length, set, replicate, length-append, length-replicate, replicate-append-replicate}
use Rattle.formula.specs.declared.nodes.Kind.{Kind}

unfoldable pub put : ℕ → List Kind → List Kind → List Kind
put b [] ns = ns
put b (x ∷ xs) ns = put (suc b) xs (set ns b x)

pub put_append : (xs ys : List Kind) (b : ℕ) (ns : List Kind) → put b (xs ++ ys) ns ≡ put (b + length xs) ys (put b xs ns)
unfolding put
put_append [] ys b ns = let e : b + 0 ≡ b = omega arith in rw e
put_append (x ∷ xs) ys b ns = let e : b + suc (length xs) ≡ suc b + length xs = omega arith in rw e (put_append xs ys (suc b) (set ns b x))

-- at two places, in either order
set_apart : (ns : List Kind) (i j : ℕ) (x y : Kind) → (i ≡ j → ⊥) → set (set ns i x) j y ≡ set (set ns j y) i x
set_apart [] i j x y h = refl
set_apart (n ∷ ns) zero zero x y h = absurd (h refl)
set_apart (n ∷ ns) zero (suc j) x y h = refl
set_apart (n ∷ ns) (suc i) zero x y h = refl
set_apart (n ∷ ns) (suc i) (suc j) x y h = ap (λ (l : List Kind). n ∷ l) (set_apart ns i j x y (λ e. h (ap suc e)))

put_set : (xs : List Kind) (b i : ℕ) (x : Kind) (ns : List Kind) → b + length xs ≤ i → put b xs (set ns i x) ≡ set (put b xs ns) i x
unfolding put
put_set [] b i x ns h = refl
put_set (y ∷ xs) b i x ns h = rw (set_apart ns i b x y (λ e. omega arith)) (put_set xs (suc b) i x (set ns b y) (omega arith))

-- the node behind them was put first
pub put_last : (xs : List Kind) (x : Kind) (b i : ℕ) (ns : List Kind) → b + length xs ≡ i → put b xs (set ns i x) ≡ put b (xs ++ (x ∷ [])) ns
unfolding put
put_last xs x b i ns e = put_set xs b i x ns (omega arith) ∙ rw (put_append xs (x ∷ []) b ns, e)

set_at : (pre : List Kind) (y x : Kind) (post : List Kind) → set (pre ++ (y ∷ post)) (length pre) x ≡ pre ++ (x ∷ post)
set_at [] y x post = refl
set_at (n ∷ pre) y x post = ap (λ (l : List Kind). n ∷ l) (set_at pre y x post)

-- over as many others
put_over : (xs ys pre post : List Kind) → length ys ≡ length xs → put (length pre) xs (pre ++ (ys ++ post)) ≡ pre ++ (xs ++ post)
unfolding put
put_over [] [] pre post e = refl
put_over [] (y ∷ ys) pre post e = absurd (omega arith)
put_over (x ∷ xs) [] pre post e = absurd (omega arith)
put_over (x ∷ xs) (y ∷ ys) pre post e =
    let n : suc (length pre) ≡ length (pre ++ (x ∷ [])) = simp length-append (omega arith) in
    let a : pre ++ (x ∷ (ys ++ post)) ≡ (pre ++ (x ∷ [])) ++ (ys ++ post) = sym (append_assoc pre (x ∷ []) (ys ++ post)) in
    rw (set_at, a, n) (put_over xs ys (pre ++ (x ∷ [])) post (omega arith) ∙ append_assoc pre (x ∷ []) (xs ++ post))

-- at the start of a row of one node over and over
pub put_start : (xs : List Kind) (x : Kind) (m : ℕ) → put 0 xs (replicate (length xs + m) x) ≡ xs ++ replicate m x
put_start xs x m =
    rw (← replicate-append-replicate (length xs) m x) (put_over xs (replicate (length xs) x) [] (replicate m x) (length-replicate (length xs) x))
