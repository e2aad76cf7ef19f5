-- A list whose first n entries were lent, or the part behind them, and came back. Assumes nothing.
use Rattle.std.specs.Prelude.{◌≡◌, List, [], ◌++◌, ℕ, ◌+◌, ◌-◌, ◌≤◌, ◌<◌, length, take, drop}
use Rattle.std.proofs.Common.{ap, sym, ◌∙◌, append-nil, arith, length-take, length-drop, length-append, drop_of_length-le, take_all, length-take-le, get_or-take, get_or-drop, get_or-append-add}
use Rattle.std.proofs.Math.ListN.{get_or-append}
use Rattle.std.proofs.Math.Seq.{take-append_seam}
use Rattle.numbers.specs.Filled.{at, Filled, Table, table_at, table_rest}

-- the part, and the list with ys in its place
abbrev pub rest : List ℕ → ℕ → List ℕ
rest xs n = take (length xs - n) (drop n xs)

abbrev pub back : List ℕ → ℕ → List ℕ → List ℕ
back xs n ys = take n xs ++ (ys ++ drop (length xs - n) (drop n xs))

pub rest_is : (xs : List ℕ) (n : ℕ) → rest xs n ≡ drop n xs
rest_is xs n = take_all (length xs - n) (drop n xs) (omega (arith, length-drop n xs))

pub rest_at : (xs : List ℕ) (n k : ℕ) → at (rest xs n) k ≡ at xs (n + k)
rest_at xs n k = rw (rest_is xs n) (get_or-drop n xs k 0)

pub rest_length : (xs : List ℕ) (n : ℕ) → length (rest xs n) ≡ length xs - n
rest_length xs n = rw (rest_is xs n) (length-drop n xs)

-- what is filled of the part is filled of the whole
module _ (xs : List ℕ) (n : ℕ) {f : ℕ → ℕ} {ys : List ℕ} {m : ℕ} (h : n ≤ length xs) (t : Table f (rest xs n) ys m) where
  many : length (take n xs) ≡ n
  many = simp length-take (omega arith)

  none : drop (length xs - n) (drop n xs) ≡ []
  none = drop_of_length-le (drop n xs) {i = length xs - n} (omega (arith, length-drop n xs))

  back_is : back xs n ys ≡ take n xs ++ ys
  back_is = ap (λ (l : List ℕ). take n xs ++ (ys ++ l)) none ∙ ap (λ (l : List ℕ). take n xs ++ l) (append-nil ys)

  behind : (k : ℕ) → at (back xs n ys) (n + k) ≡ at ys k
  behind k = rw back_is (ap (λ (i : ℕ). at (take n xs ++ ys) (i + k)) (sym many) ∙ get_or-append-add (take n xs) ys k 0)

  pub part_filled : Filled f n m xs (back xs n ys)
  part_filled =
      record {
        same = rw back_is (length-append (take n xs) ys ∙ omega (arith, many, t.same, rest_length xs n));
        filled = λ k b. behind k ∙ table_at t k b;
        before = λ k b. rw back_is (get_or-append (take n xs) ys 0 k (omega (arith, many)) ∙ get_or-take n xs k 0 b);
        after = λ k b.
            let e : n + (k - n) ≡ k = omega arith in
            ap (at (back xs n ys)) (sym e) ∙ behind (k - n) ∙ table_rest t (k - n) (omega arith) ∙ rest_at xs n (k - n) ∙ ap (at xs) e;
      }

-- a list with ys in the place of its first n entries
module _ (xs ys : List ℕ) (n : ℕ) (h : n ≤ length xs) (e : length ys ≡ length (take n xs)) where
  front_many : length ys ≡ n
  front_many = e ∙ length-take-le n xs h

  pub front_length : length (ys ++ drop n xs) ≡ length xs
  front_length = length-append ys (drop n xs) ∙ omega (arith, front_many, length-drop n xs)

  pub front_at : (k : ℕ) → k < n → at (ys ++ drop n xs) k ≡ at ys k
  front_at k l = get_or-append ys (drop n xs) 0 k (omega (arith, front_many))

  pub front_beyond : (k : ℕ) → n ≤ k → at (ys ++ drop n xs) k ≡ at xs k
  front_beyond k l =
      let z : n + (k - n) ≡ k = omega arith in
      let y : length ys + (k - n) ≡ k = omega (arith, front_many) in
      ap (at (ys ++ drop n xs)) (sym y) ∙ get_or-append-add ys (drop n xs) (k - n) 0 ∙ get_or-drop n xs (k - n) 0 ∙ ap (at xs) z

  pub front_taken : take n (ys ++ drop n xs) ≡ ys
  front_taken = ap (λ (k : ℕ). take k (ys ++ drop n xs)) (sym front_many) ∙ take-append_seam ys (drop n xs)
