-- Zeros in the words that are worked in, and in all words before the marks. Assumes nothing.
use mathlib.Core.Path.{◌≡◌, refl, ◌∙◌}
use mathlib.Core.List.{List}
use Prim.Native.Nat.{ℕ, ◌+◌, ◌*◌, ◌-◌, ◌<◌}
use native.Mathlib.Omega.{arith}
use lib.ListN.{take}
use Rattle.numbers.specs.Filled.{Filled, filled_at}
use Rattle.rate_matrix.specs.Words.{at, top_of}
use Rattle.rate_matrix.specs.Laid.{Columns, rows_lines, rows_rise}
use Rattle.vectors.specs.Places.{marks_from}
use Rattle.vectors.specs.Prepared.{Rates, PrepareAsked, Laid, Cleared, WorkAsked}

pub is_cleared : {e l k : List ℕ} {n : ℕ} (m : ℕ) → WorkAsked e n → m ≡ marks_from n → Filled (λ _. 0) (2 * n) (6 * n - 2 * n) e l
    → Filled (λ _. 0) (9 * n) (m - 9 * n) l k → Cleared n e k
is_cleared m p z t u =
    record {
      clear = record {
        columns = λ i a b. u.before i (omega arith) ∙ filled_at t i a (omega arith);
        weights = λ i a b. filled_at u i a (omega arith);
      };
      same = u.same ∙ t.same;
      ends = λ i b. u.before i (omega arith) ∙ t.before i b;
      rates = λ i a b. u.before i b ∙ t.after i (omega arith);
      beyond = λ i b. u.after i (omega arith) ∙ t.after i (omega arith);
    }

module _ {mv mv' e l k : List ℕ} {m n : ℕ} (i : ℕ) (p : PrepareAsked mv m e n) (z : i ≡ marks_from n) (t : Filled (λ _. 0) 0 i e l)
    (u : Columns mv mv' m (6 * n) n l k) where
  zero : (j : ℕ) → j < i → at l j ≡ 0
  zero j b = filled_at t j (omega arith) (omega arith)

  rates : Rates (take m mv') k n (top_of (take m mv') m n)
  rates =
      let r = u.laid.rows in
      record {
        lines = rw r.many (rows_lines r p.lines);
        rows = rw r.many (rows_rise r p.lines);
        long = omega (arith, p.long, u.same, t.same);
        exits = rw r.many u.exits;
        ends = λ s b. let w : 7 * n + s ≡ 6 * n + n + s = omega arith in rw (r.many, w) (u.ends s b);
        top = rw r.many refl;
      }

  pub is_laid : Laid mv mv' m n e k
  is_laid =
      record {
        laid = u.laid;
        prepared = record {
          rates = rates;
          clear = record {
            columns = λ j a b. u.before j b ∙ zero j (omega arith);
            weights = λ j a b. u.after j (omega arith) ∙ zero j (omega arith);
          };
        };
        owns = λ s b. let w : 8 * n + s ≡ 6 * n + n + n + s = omega arith in rw w (u.owns s b);
        ends = λ j b. u.before j (omega arith) ∙ zero j (omega arith);
        same = u.same ∙ t.same;
        beyond = λ j b. u.after j (omega arith) ∙ t.after j (omega arith);
      }
