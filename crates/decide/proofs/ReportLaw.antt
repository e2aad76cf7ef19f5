-- The report of a formula, from its row and, where it is no `P`, from the ends that its verdicts stand for. Assumes nothing.
use mathlib.Core.Path.{◌≡◌, refl, ap, sym, ◌∙◌}
use mathlib.Core.Bool.{Bool, true, false}
use mathlib.Core.List.{List}
use Prim.Native.Nat.{ℕ, ◌+◌, ◌-◌, ◌/◌, ◌%◌, ◌^◌, ◌≤◌, ◌<◌}
use native.Mathlib.Omega.{arith}
use lib.ListN.{length}
use lib.Dec.{ltb, eqb}
use borrow.Author.Tests.{ltb-true, ltb-false}
use Rattle.csl.specs.Limits.{billion}
use Rattle.csl.specs.Formula.{Formula}
use Rattle.csl.specs.Formula as csl
use Rattle.csl.specs.Chain.{Chain}
use Rattle.csl.specs.Verdicts.{Verdict, No, Yes, Undecided, marked, negation, conjunction}
use Rattle.csl.specs.Report.{lower_of, upper_of, depth_of}
use Rattle.csl.specs.Lent.{verdict_byte}
use Rattle.numbers.specs.Filled.{at}
use Rattle.bounds.specs.Found.{report_lower, report_upper, found}
use Rattle.verdicts.specs.Byte.{verdict_at, byte_read}
use Rattle.vectors.specs.Places.{EndsStored}
use Rattle.verdict_rows.specs.Row.{EndsIn}
use Rattle.verdict_rows.specs.Byte.{label_byte, negated_byte, joined_byte}
use Rattle.until.specs.Asked.{Still}
use Rattle.formula.specs.declared.operands.Operands.{Operands}
use Rattle.decide.specs.Rows.{RowLeft}
use Rattle.decide.specs.Node.{NodeDecided}
use Rattle.decide.proofs.RowsLaw.{ends_as}

-- ends in the first 2 * n words, each at most 1,000,000,000
pub ends_in : {f g : ℕ → ℕ} {n : ℕ} {x y : List ℕ} → EndsStored f g n x y → n + n ≤ length x → ((s : ℕ) → s < n → f s ≤ billion)
    → ((s : ℕ) → s < n → g s ≤ billion) → EndsIn n y
ends_in {f} {g} {n} {x} {y} b long h k = record { long = omega (arith, b.same); range = λ i l. go i l (ltb i n) refl }
  where
    go : (i : ℕ) → i < n + n → (z : Bool) → ltb i n ≡ z → at y i ≤ billion
    go i l true e =
        let j : i < n = ltb-true i n e in
        omega (arith, b.lowers i j, h i j)
    go i l false e =
        let j : n ≤ i = ltb-false i n e in
        let x : n + (i - n) ≡ i = omega arith in
        let z : at y i ≡ g (i - n) = ap (at y) (sym x) ∙ b.uppers (i - n) (omega arith) in
        omega (arith, k (i - n) (omega arith))

lower_most : (v : Verdict) → lower_of v ≤ billion
lower_most No = omega arith
lower_most Yes = omega arith
lower_most Undecided = omega arith

upper_most : (v : Verdict) → upper_of v ≤ billion
upper_most No = omega arith
upper_most Yes = omega arith
upper_most Undecided = omega arith

-- a formula that is no `P`: its ends are those that its verdicts stand for
abbrev pub NoChance : Formula → Type 0
NoChance csl.always = Unit {0}
NoChance (csl.label w) = Unit {0}
NoChance (csl.negated g) = Unit {0}
NoChance (csl.both g h) = Unit {0}
NoChance (csl.chance r p w) = ⊥

record EndsOfVerdicts (c : Chain) (f : Formula) : Type 0 where
  lower : (s : ℕ) → report_lower c f s ≡ lower_of (found c f s)
  upper : (s : ℕ) → report_upper c f s ≡ upper_of (found c f s)
  depth : depth_of c f ≡ 0

ends_of_verdicts : (c : Chain) (f : Formula) → NoChance f → EndsOfVerdicts c f
unfolding report_lower report_upper depth_of
ends_of_verdicts c csl.always p = record { lower = λ s. refl; upper = λ s. refl; depth = refl }
ends_of_verdicts c (csl.label w) p = record { lower = λ s. refl; upper = λ s. refl; depth = refl }
ends_of_verdicts c (csl.negated g) p = record { lower = λ s. refl; upper = λ s. refl; depth = refl }
ends_of_verdicts c (csl.both g h) p = record { lower = λ s. refl; upper = λ s. refl; depth = refl }
ends_of_verdicts c (csl.chance r q w) p = absurd p

-- the report of such a formula, once its row stands
pub plain_decides : (c : Chain) (f : Formula) (operands : Operands) {n : ℕ} {l₀ l m₀ m : List ℕ} {r : ℕ} → NoChance f → n + n ≤ length l₀
    → RowLeft operands (λ s. verdict_byte (found c f s)) n m₀ m → ((s : ℕ) → s < n → at m s ≡ verdict_byte (found c f s)) → Still m n l₀ l → r ≡ 0
    → NodeDecided c f operands n l₀ l m₀ m r
plain_decides c f operands {n} {l₀} {l} {m₀} {m} p long row is t z =
    let i = ends_of_verdicts c f p in
    let v : (s : ℕ) → s < n → verdict_at (at m s) ≡ found c f s = λ s h. ap verdict_at (is s h) ∙ byte_read (found c f s) in
    record {
      row = row;
      ends = ends_as _ _ (λ s h. ap lower_of (v s h) ∙ sym (i.lower s)) (λ s h. ap upper_of (v s h) ∙ sym (i.upper s)) t;
      range = ends_in t long (λ s h. lower_most (verdict_at (at m s))) (λ s h. upper_most (verdict_at (at m s)));
      deep = z ∙ sym i.depth;
    }

-- the bytes of operands are those of their verdicts
pub negated_byte_lem : (v : Verdict) (b : ℕ) → verdict_at b ≡ v → negated_byte b ≡ verdict_byte (negation v)
unfolding negated_byte
negated_byte_lem v b e = rw e refl

pub joined_byte_lem : (v w : Verdict) (a b : ℕ) → verdict_at a ≡ v → verdict_at b ≡ w → joined_byte a b ≡ verdict_byte (conjunction v w)
unfolding joined_byte
joined_byte_lem v w a b e h = rw (e, h) refl

-- a label's byte is that of its mark
pub label_byte_lem : (word place : ℕ) {b : Bool} → eqb (word / 2 ^ place % 2) 1 ≡ b → label_byte word place ≡ verdict_byte (marked b)
unfolding label_byte
label_byte_lem word place e = ap (λ (b : Bool). verdict_byte (marked b)) e
