-- The lent buffers: "With n states and m move lines the caller lends: lower and upper numbers (32 bits) and verdict bytes, n of each; move
-- words (64 bits) of m; vector words (64 bits) of 10 × n + 512"; and "a lent order buffer of n 16-bit numbers". "An index of incoming moves is
-- kept beside the moves, holding each move once; the move words lent grow to 2 × m." "The shipboard unit is short of memory: mark bytes of
-- 17 × n, or nodes × n where that is less, shall be enough." Assumes nothing.
use Rattle.std.specs.Prelude.{ℕ, zero, suc, ◌+◌, ◌*◌, min, Bool, List, [], ◌∷◌, ◌++◌, length, drop, replicate, ltb}
use Rattle.csl.specs.Text.{any}
use Rattle.csl.specs.Limits.{move_places, vector_places, vector_spare, most_rows}
use Rattle.csl.specs.Verdicts.{Verdict, No, Yes, Undecided}
use Rattle.csl.specs.Order.{worst_first}

-- what each buffer holds, or how long it is
pub record Buffers (A : Type 0) : Type 0 where
  pub lower : A
  pub upper : A
  pub verdicts : A
  pub order : A
  pub moves : A
  pub vectors : A
  pub marks : A

-- n states, m move lines, k nodes; "15 and the zeros after acceptance use the new length": both go by these
abbrev pub needed : ℕ → ℕ → ℕ → Buffers ℕ
needed n m k =
    record {
      lower = n;
      upper = n;
      verdicts = n;
      order = n;
      moves = move_places * m;
      vectors = vector_places * n + vector_spare;
      marks = min (most_rows * n) (k * n);
    }

abbrev pub lengths : Buffers (List ℕ) → Buffers ℕ
lengths b =
    record {
      lower = length b.lower;
      upper = length b.upper;
      verdicts = length b.verdicts;
      order = length b.order;
      moves = length b.moves;
      vectors = length b.vectors;
      marks = length b.marks;
    }

-- a buffer's length as lent, and as needed
pub record Room : Type 0 where
  pub lent : ℕ
  pub need : ℕ

abbrev pub room : ℕ → ℕ → Room
room l n = record { lent = l; need = n }

unfoldable pub rooms : Buffers ℕ → Buffers ℕ → List Room
rooms l n =
    room l.lower n.lower ∷ room l.upper n.upper ∷ room l.verdicts n.verdicts ∷ room l.order n.order
    ∷ room l.moves n.moves ∷ room l.vectors n.vectors ∷ room l.marks n.marks ∷ []

-- "a lent buffer too short"; "15 covers it too"
unfoldable pub is_short : Buffers ℕ → Buffers ℕ → Bool
is_short l n = any (λ r. ltb r.lent r.need) (rooms l n)

-- "A verdict byte is 0 no, 1 yes, 2 undecided."
abbrev pub verdict_byte : Verdict → ℕ
verdict_byte No = 0
verdict_byte Yes = 1
verdict_byte Undecided = 2

-- f 0 to f (n - 1)
unfoldable pub column : (ℕ → ℕ) → ℕ → List ℕ
column f zero = []
column f (suc n) = column f n ++ (f n ∷ [])

-- a buffer whose first numbers are written over; "everything beyond is unchanged"
unfoldable pub written : List ℕ → List ℕ → List ℕ
written new old = new ++ drop (length new) old

-- "After acceptance the first n results hold the report, the named lengths of move, vector and mark buffers hold 0, and everything beyond
-- is unchanged"; the order buffer "holds the state numbers in that order".
unfoldable pub filled : (n m k : ℕ) → (lower upper : ℕ → ℕ) → (ℕ → Verdict) → Buffers (List ℕ) → Buffers (List ℕ)
filled n m k lower upper v old =
    record {
      lower = written (column lower n) old.lower;
      upper = written (column upper n) old.upper;
      verdicts = written (column (λ s. verdict_byte (v s)) n) old.verdicts;
      order = written (worst_first lower upper n) old.order;
      moves = written (replicate (needed n m k).moves 0) old.moves;
      vectors = written (replicate (needed n m k).vectors 0) old.vectors;
      marks = written (replicate (needed n m k).marks 0) old.marks;
    }
